-- Manual, sections 1.1 and 1.5: an image of the length that its sizes need, which the functions that read an image by name ask for. No
-- public entry point asks it: each tests the shape first.
use Rattle.std.specs.Prelude.{◌≡◌, List, ℕ, ◌*◌, ◌≤◌, length}
use Rattle.words.specs.Image.{head_words, terminals, nonterminals, productions, states, scan_states, classes, ranges, groups, most_terminals, most_nonterminals, most_productions, most_parse_states, most_scan_states, most_classes, most_ranges, most_groups, needed}

-- The sizes are there and within their limits, and so are the products of two of them.
pub record Sized (img : List ℕ) : Type 0 where
  pub there : head_words ≤ length img
  pub t_least : 1 ≤ terminals img
  pub t_most : terminals img ≤ most_terminals
  pub n_least : 1 ≤ nonterminals img
  pub n_most : nonterminals img ≤ most_nonterminals
  pub p_least : 1 ≤ productions img
  pub p_most : productions img ≤ most_productions
  pub s_least : 1 ≤ states img
  pub s_most : states img ≤ most_parse_states
  pub q_least : 1 ≤ scan_states img
  pub q_most : scan_states img ≤ most_scan_states
  pub c_least : 1 ≤ classes img
  pub c_most : classes img ≤ most_classes
  pub r_most : ranges img ≤ most_ranges
  pub g_most : groups img ≤ most_groups
  pub act_cells : states img * terminals img ≤ most_parse_states * most_terminals
  pub goto_cells : states img * nonterminals img ≤ most_parse_states * most_nonterminals
  pub move_cells : scan_states img * classes img ≤ most_scan_states * most_classes

-- The image is as long as its sizes need.
pub record Laid (img : List ℕ) : Type 0 where
  pub sized : Sized img
  pub whole : length img ≡ needed img
