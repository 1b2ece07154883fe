-- Manual, section 1.6: the rules of the shape, each a test of one word, or of one set, which is tested as one. A rule over several of
-- them is the test of the last. In what order the rules are tested, and at what place one fails, is in Shape.antt of crate `shape`.
use Rattle.std.specs.Prelude.{Bool, true, false, ◌&&◌, List, ℕ, zero, suc, ◌+◌, ◌-◌, ◌^◌, eqb, leb, ltb, length}
use Rattle.sets.specs.Sets.{lacks, member, meet, is_empty, several}
use Rattle.words.specs.declared.Action.{Action}
use Rattle.words.specs.declared.Action.TheVariants.{Error, Accept, Shift, Reduce}
use Rattle.pack.specs.Image.{word, most_symbols, terminals, nonterminals, productions, states, classes, least_size, greatest_size, first_nonterminal, of_nonterminal, greatest_byte, layout, dom, lhs, len, symbol, lo, hi, range_class, acc, rej, poss, group_set, chosen}

-- The size at word i is there, and within its limits.
abbrev pub size_right : List ℕ → ℕ → Bool
size_right img i = ltb i (length img) && (leb (least_size i) (word img i) && leb (word img i) (greatest_size i))

-- A set has no bit T or above and lacks bit 0. Every set of the image does, but that of terminal 0, which is empty.
unfoldable pub fits : List ℕ → ℕ → Bool
fits img set = ltb set (2 ^ terminals img) && lacks set 0

abbrev pub layout_right : List ℕ → Bool
layout_right img = fits img (layout img)

-- Nothing outranks the end of the text, and neither that nor terminal t itself outranks t.
unfoldable pub dom_right : List ℕ → ℕ → Bool
dom_right img t = elim (eqb t 0) [ true ↦ is_empty (dom img t) | false ↦ fits img (dom img t) && lacks (dom img t) t ]

-- The left side of a production is one of the N nonterminals, and there are at most 14 symbols.
abbrev pub lhs_right : List ℕ → ℕ → Bool
lhs_right img p = ltb (lhs img p) (nonterminals img)

abbrev pub len_right : List ℕ → ℕ → Bool
len_right img p = leb (len img p) most_symbols

-- A symbol is a terminal 1..T-1 outside layout or one of the N nonterminals; one that a production does not use is 0.
unfoldable pub is_symbol : List ℕ → ℕ → Bool
is_symbol img x =
    elim (ltb x (terminals img)) [
      | true ↦ leb 1 x && lacks (layout img) x
      | false ↦ leb first_nonterminal x && ltb x (of_nonterminal (nonterminals img))
    ]

abbrev pub symbol_right : List ℕ → ℕ → ℕ → Bool
symbol_right img p i = elim (ltb i (len img p)) [ true ↦ is_symbol img (symbol img p i) | false ↦ eqb (symbol img p i) 0 ]

-- An action in column t names a state or a production that there is; an accept is in column 0 only, a shift is not, and a layout column
-- has errors only. (Column 0 is no layout column: layout lacks bit 0.)
unfoldable pub act_right : List ℕ → ℕ → Action → Bool
act_right img t Error = true
act_right img t Accept = eqb t 0
act_right img t (Shift s) = lacks (layout img) t && (leb 1 t && ltb s (states img))
act_right img t (Reduce p) = lacks (layout img) t && ltb p (productions img)

-- A range begins above the end of the one before it, ends where it begins or later, at a byte, and has one of the C classes.
unfoldable pub above_previous : List ℕ → ℕ → Bool
above_previous img r = elim (eqb r 0) [ true ↦ true | false ↦ ltb (hi img (r - 1)) (lo img r) ]

abbrev pub ends_right : List ℕ → ℕ → Bool
ends_right img r = leb (lo img r) (hi img r) && leb (hi img r) greatest_byte

abbrev pub class_right : List ℕ → ℕ → Bool
class_right img r = ltb (range_class img r) (classes img)

-- What a scan state accepts and what it rejects share nothing, and both are empty in scan state 0.
unfoldable pub empty_at_start : ℕ → ℕ → Bool
empty_at_start q set = elim (eqb q 0) [ true ↦ is_empty set | false ↦ true ]

abbrev pub acc_right : List ℕ → ℕ → Bool
acc_right img q = fits img (acc img q) && empty_at_start q (acc img q)

abbrev pub rej_right : List ℕ → ℕ → Bool
rej_right img q = fits img (rej img q) && (empty_at_start q (rej img q) && is_empty (meet (acc img q) (rej img q)))

abbrev pub poss_right : List ℕ → ℕ → Bool
poss_right img q = fits img (poss img q)

-- The set differs from those of n groups from g on.
unfoldable pub differs : List ℕ → ℕ → ℕ → ℕ → Bool
differs img set zero g = true
differs img set (suc n) g = elim (eqb (group_set img g) set) [ true ↦ false | false ↦ differs img set n (g + 1) ]

-- A group has at least two terminals, its set is that of no earlier group, and the chosen terminal is in it.
abbrev pub group_right : List ℕ → ℕ → Bool
group_right img g = fits img (group_set img g) && (several (group_set img g) && differs img (group_set img g) g 0)

abbrev pub chosen_right : List ℕ → ℕ → Bool
chosen_right img g = member (group_set img g) (chosen img g)
