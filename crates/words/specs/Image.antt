-- Manual, sections 1.1 and 1.3 to 1.5: the image, where each table stands in it, and each number in it by name.
-- An image is the list of its 16-bit words. What stands where in it is known in this file alone.
use Rattle.std.specs.Prelude.{true, false, List, [], ◌∷◌, ℕ, zero, suc, ◌+◌, ◌*◌, ◌-◌, ◌/◌, ◌%◌, ◌^◌, eqb, leb, get_or}
use Rattle.sets.specs.Sets.{less, single}
use Rattle.words.specs.declared.Action.{Action}
use Rattle.words.specs.declared.Action.TheVariants.{Error, Accept, Shift, Reduce}

-- The word at a place; 0 where there is none.
abbrev pub word : List ℕ → ℕ → ℕ
word img i = get_or img i 0

-- How many words a thing takes. The head is the number 1 and the eight sizes; a production is its left side, its length and 14 symbols;
-- a range is its two ends and its class; a scan state is three sets; a group is a set and the chosen terminal.
abbrev pub set_words : ℕ
set_words = 4

abbrev pub size_words : ℕ
size_words = 8

abbrev pub head_words : ℕ
head_words = 1 + size_words

abbrev pub most_symbols : ℕ
most_symbols = 14

abbrev pub production_words : ℕ
production_words = 2 + most_symbols

abbrev pub range_words : ℕ
range_words = 3

abbrev pub scan_words : ℕ
scan_words = 3 * set_words

abbrev pub group_words : ℕ
group_words = set_words + 1

-- A set of four words, lowest first.
unfoldable pub set_at : List ℕ → ℕ → ℕ
set_at img i = word img i + word img (i + 1) * 65536 + word img (i + 2) * 4294967296 + word img (i + 3) * 281474976710656

-- The sizes, in the words 1 to 8. T:
abbrev pub terminals : List ℕ → ℕ
terminals img = word img 1

-- N:
abbrev pub nonterminals : List ℕ → ℕ
nonterminals img = word img 2

-- P:
abbrev pub productions : List ℕ → ℕ
productions img = word img 3

-- S:
abbrev pub states : List ℕ → ℕ
states img = word img 4

-- Q:
abbrev pub scan_states : List ℕ → ℕ
scan_states img = word img 5

-- C:
abbrev pub classes : List ℕ → ℕ
classes img = word img 6

-- R:
abbrev pub ranges : List ℕ → ℕ
ranges img = word img 7

-- G:
abbrev pub groups : List ℕ → ℕ
groups img = word img 8

-- The most that each size may be, and the least and the most of the size at word i. There may be no ranges and no groups.
abbrev pub most_terminals : ℕ
most_terminals = 64

abbrev pub most_nonterminals : ℕ
most_nonterminals = 32

abbrev pub most_productions : ℕ
most_productions = 128

abbrev pub most_parse_states : ℕ
most_parse_states = 128

abbrev pub most_scan_states : ℕ
most_scan_states = 128

abbrev pub most_classes : ℕ
most_classes = 32

abbrev pub most_ranges : ℕ
most_ranges = 64

abbrev pub most_groups : ℕ
most_groups = 32

unfoldable pub least_size : ℕ → ℕ
least_size i = get_or (0 ∷ 1 ∷ 1 ∷ 1 ∷ 1 ∷ 1 ∷ 1 ∷ 0 ∷ 0 ∷ []) i 0

unfoldable pub greatest_size : ℕ → ℕ
greatest_size i =
    get_or (0 ∷ most_terminals ∷ most_nonterminals ∷ most_productions ∷ most_parse_states ∷ most_scan_states ∷ most_classes ∷ most_ranges ∷ most_groups ∷ []) i 0

-- The words of an image whose sizes are all the greatest; no image of good shape has more.
abbrev pub largest_image : ℕ
largest_image = 20589

-- Where each table begins, in the order of the text form, and the length of the whole.
abbrev pub layout_at : ℕ
layout_at = head_words

abbrev pub dom_start : ℕ
dom_start = layout_at + set_words

abbrev pub prod_start : List ℕ → ℕ
prod_start img = dom_start + terminals img * set_words

abbrev pub act_start : List ℕ → ℕ
act_start img = prod_start img + productions img * production_words

abbrev pub goto_start : List ℕ → ℕ
goto_start img = act_start img + states img * terminals img

abbrev pub class_start : List ℕ → ℕ
class_start img = goto_start img + states img * nonterminals img

abbrev pub move_start : List ℕ → ℕ
move_start img = class_start img + ranges img * range_words

abbrev pub scan_start : List ℕ → ℕ
scan_start img = move_start img + scan_states img * classes img

abbrev pub group_start : List ℕ → ℕ
group_start img = scan_start img + scan_states img * scan_words

abbrev pub needed : List ℕ → ℕ
needed img = group_start img + groups img * group_words

-- Where the entry of a terminal, a production, a cell, a range, a scan state or a group stands, and what it is made of.
abbrev pub dom_at : ℕ → ℕ
dom_at t = dom_start + t * set_words

abbrev pub prod_at : List ℕ → ℕ → ℕ
prod_at img p = prod_start img + p * production_words

abbrev pub len_at : List ℕ → ℕ → ℕ
len_at img p = prod_at img p + 1

abbrev pub symbol_at : List ℕ → ℕ → ℕ → ℕ
symbol_at img p i = prod_at img p + 2 + i

abbrev pub act_at : List ℕ → ℕ → ℕ → ℕ
act_at img s t = act_start img + (s * terminals img + t)

abbrev pub goto_at : List ℕ → ℕ → ℕ → ℕ
goto_at img s n = goto_start img + (s * nonterminals img + n)

abbrev pub range_at : List ℕ → ℕ → ℕ
range_at img r = class_start img + r * range_words

abbrev pub hi_at : List ℕ → ℕ → ℕ
hi_at img r = range_at img r + 1

abbrev pub range_class_at : List ℕ → ℕ → ℕ
range_class_at img r = range_at img r + 2

abbrev pub move_at : List ℕ → ℕ → ℕ → ℕ
move_at img q c = move_start img + (q * classes img + c)

abbrev pub scan_at : List ℕ → ℕ → ℕ
scan_at img q = scan_start img + q * scan_words

abbrev pub rej_at : List ℕ → ℕ → ℕ
rej_at img q = scan_at img q + set_words

abbrev pub poss_at : List ℕ → ℕ → ℕ
poss_at img q = scan_at img q + 2 * set_words

abbrev pub group_at : List ℕ → ℕ → ℕ
group_at img g = group_start img + g * group_words

abbrev pub chosen_at : List ℕ → ℕ → ℕ
chosen_at img g = group_at img g + set_words

-- The layout set, and the terminals that outrank t.
unfoldable pub layout : List ℕ → ℕ
layout img = set_at img layout_at

unfoldable pub dom : List ℕ → ℕ → ℕ
dom img t = set_at img (dom_at t)

-- A production: its left side, its length and its symbols.
unfoldable pub lhs : List ℕ → ℕ → ℕ
lhs img p = word img (prod_at img p)

unfoldable pub len : List ℕ → ℕ → ℕ
len img p = word img (len_at img p)

unfoldable pub symbol : List ℕ → ℕ → ℕ → ℕ
symbol img p i = word img (symbol_at img p i)

-- The symbols of production p from the i-th on, n of them; its right side is all that it has.
unfoldable pub symbols_from : List ℕ → ℕ → ℕ → ℕ → List ℕ
symbols_from img p zero i = []
symbols_from img p (suc n) i = symbol img p i ∷ symbols_from img p n (i + 1)

abbrev pub right_side : List ℕ → ℕ → List ℕ
right_side img p = symbols_from img p (len img p) 0

-- The number of a symbol: a terminal's is its own, a nonterminal's is 64 more. Terminal 0 is the end of the text; nonterminal 0 is the
-- start symbol.
abbrev pub first_nonterminal : ℕ
first_nonterminal = 64

abbrev pub of_nonterminal : ℕ → ℕ
of_nonterminal n = first_nonterminal + n

abbrev pub end_of_text : ℕ
end_of_text = 0

abbrev pub start_symbol : ℕ
start_symbol = of_nonterminal 0

-- The cells of the tables.
unfoldable pub act : List ℕ → ℕ → ℕ → ℕ
act img s t = word img (act_at img s t)

unfoldable pub goto : List ℕ → ℕ → ℕ → ℕ
goto img s n = word img (goto_at img s n)

unfoldable pub move : List ℕ → ℕ → ℕ → ℕ
move img q c = word img (move_at img q c)

-- What the code in a cell of the action table asks for: 0 is an error, 1 accepts, 2+2s shifts to state s, 3+2p reduces by production p.
-- (A goto or a move is read where it is used: 0 is none, and 1+s leads to state s.)
unfoldable pub action_of : ℕ → Action
action_of code =
    elim (eqb code 0) [
      | true ↦ Error
      | false ↦ elim (eqb code 1) [
        | true ↦ Accept
        | false ↦ elim (eqb ((code - 2) % 2) 0) [ true ↦ Shift ((code - 2) / 2) | false ↦ Reduce ((code - 2) / 2) ]
      ]
    ]

-- A range, lo to hi, of class c.
unfoldable pub lo : List ℕ → ℕ → ℕ
lo img r = word img (range_at img r)

unfoldable pub hi : List ℕ → ℕ → ℕ
hi img r = word img (hi_at img r)

unfoldable pub range_class : List ℕ → ℕ → ℕ
range_class img r = word img (range_class_at img r)

-- What scan state q accepts, what it rejects, and what is possible from it on.
unfoldable pub acc : List ℕ → ℕ → ℕ
acc img q = set_at img (scan_at img q)

unfoldable pub rej : List ℕ → ℕ → ℕ
rej img q = set_at img (rej_at img q)

unfoldable pub poss : List ℕ → ℕ → ℕ
poss img q = set_at img (poss_at img q)

-- A group's set, and its chosen terminal.
unfoldable pub group_set : List ℕ → ℕ → ℕ
group_set img g = set_at img (group_at img g)

unfoldable pub chosen : List ℕ → ℕ → ℕ
chosen img g = word img (chosen_at img g)

-- How many bytes there are, and the greatest.
abbrev pub byte_count : ℕ
byte_count = 256

abbrev pub greatest_byte : ℕ
greatest_byte = byte_count - 1

-- The class of byte b, sought in n ranges from range r on. A byte in no range has class 0.
unfoldable pub class_in : List ℕ → ℕ → ℕ → ℕ → ℕ
class_in img b zero r = 0
class_in img b (suc n) r =
    elim (leb (lo img r) b) [
      | false ↦ class_in img b n (r + 1)
      | true ↦ elim (leb b (hi img r)) [ true ↦ range_class img r | false ↦ class_in img b n (r + 1) ]
    ]

abbrev pub class_of : List ℕ → ℕ → ℕ
class_of img b = class_in img b (ranges img) 0

-- The valid set of parse state s, the terminals whose cell in its row is not 0: those of n columns from t on, and all.
unfoldable pub valid_from : List ℕ → ℕ → ℕ → ℕ → ℕ
valid_from img s zero t = 0
valid_from img s (suc n) t =
    elim (act img s t) [
      | zero ↦ valid_from img s n (t + 1)
      | suc c ↦ single t + valid_from img s n (t + 1)
    ]

abbrev pub valid_set : List ℕ → ℕ → ℕ
valid_set img s = valid_from img s (terminals img) 0

-- All terminals but the end of the text; and all but that and layout.
abbrev pub all_but_end : List ℕ → ℕ
all_but_end img = 2 ^ terminals img - 2

abbrev pub all_but_end_and_layout : List ℕ → ℕ
all_but_end_and_layout img = less (all_but_end img) (layout img)
