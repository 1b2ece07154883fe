-- The terminal of a code 8 may be one that the state allows: on a pack that passes, in which layout outranks layout. Each is one
-- computation. Assumes nothing.
use mathlib.Core.Path.{◌≡◌, refl}
use lib.Count.{count_trailing_zeros}
use Rattle.sets.specs.Sets.{has, member, lacks, is_empty, subset, count_below, several}
use Rattle.numbers.specs.Codes.{unexpected, greatest_allowance}
use Rattle.pack.specs.Image.{set_at, least_size, greatest_size, layout, dom, lhs, len, symbol, act, goto, move, action_of, lo, hi, range_class, acc, rej, poss, group_set, chosen, class_in, valid_from, valid_set}
use Rattle.rules.specs.Rules.{fits, dom_right, is_symbol, act_right, above_previous, empty_at_start, differs}
use Rattle.shape.specs.Shape.{rule, and_then, each, size_rule, length_rule, layout_rule, dom_rule, symbol_rule, prod_rule, act_rule, cell_rule, goto_rules, move_rules, range_rule, scan_rule, group_rule, parser_rules, scanner_rules, head_rules, shape}
use Rattle.scan.specs.Scan.{remember, move_on, onward, scan_from}
use Rattle.scan.specs.Token.{chosen_in, terminal_of}
use Rattle.look.specs.Look.{seek, rescan, choose, piece, is_layout, look_on, look}
use Rattle.parse.specs.Parse.{reduce_by, accept, perform, step, run, parse}
use Rattle.conditions.specs.Tests.{all_below, some_below, implies, same as alike}
use Rattle.conditions.specs.Edges.{shift_of, edge_to, is_edge, leads, enters, only_on, reached}
use Rattle.conditions.specs.Conditions.{Passes, outranked, k1, within, k2, is_group, settled, k3, k4, reduces, steps, ends, k5, from_start, k6}
use Rattle.conditions.specs.Check.{passed, number, firsts, seconds, test, in_row, in_rows, find, report, first_failing, check_all, check}
use Rattle.conditions.proofs.Answers.{checked_passes}
use Rattle.promise.specs.Marked.{ample, tree_of}
use Rattle.promise.specs.Ring.{ring, ring_text}

ring_checked : check ring ≡ passed
unfolding count_trailing_zeros has member lacks is_empty subset count_below several set_at least_size greatest_size layout dom lhs len symbol act goto move action_of lo hi range_class acc rej poss group_set chosen class_in valid_from rule and_then each size_rule length_rule fits layout_rule dom_right dom_rule is_symbol symbol_rule prod_rule act_right act_rule cell_rule goto_rules move_rules above_previous range_rule empty_at_start scan_rule differs group_rule parser_rules scanner_rules head_rules shape all_below some_below implies alike shift_of edge_to is_edge leads enters only_on reached outranked k1 within k2 is_group settled k3 k4 reduces steps ends k5 from_start k6 number firsts seconds test in_row in_rows find report first_failing check_all check ring
ring_checked = refl

pub ring_passes : Passes ring
ring_passes = checked_passes ring ring_checked

-- `a` is forgotten where layout is rejected after `ab`; the second scan, which leaves layout out, matches it.
pub ring-unexpected : (parse ring ring_text (tree_of ample) greatest_allowance).parsed
    ≡ record { code = unexpected; place = 0; length = 1; terminal = 1; records = 0; moves = 4 }
unfolding count_trailing_zeros has member lacks is_empty subset count_below several set_at least_size greatest_size layout dom lhs len symbol act goto move action_of lo hi range_class acc rej poss group_set chosen class_in valid_from rule and_then each size_rule length_rule fits layout_rule dom_right dom_rule is_symbol symbol_rule prod_rule act_right act_rule cell_rule goto_rules move_rules above_previous range_rule empty_at_start scan_rule differs group_rule parser_rules scanner_rules head_rules shape remember move_on onward scan_from chosen_in terminal_of seek rescan choose piece is_layout look_on look reduce_by accept perform step run parse ring
ring-unexpected = refl

pub ring_valid : has (valid_set ring 0) 1 ≡ 1
unfolding has act valid_from ring
ring_valid = refl
