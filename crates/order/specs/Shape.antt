-- Manual, section 1.6: the shape, which is the order of its rules and the place of the first wrong word. The rules themselves are in
-- Rules.antt of crate `rules`; a set is wrong at its first word.
use Rattle.std.specs.Prelude.{Bool, true, false, List, ℕ, zero, suc, ◌+◌, min, eqb, leb, length}
use Rattle.pack.specs.Image.{word, size_words, most_symbols, terminals, nonterminals, productions, states, scan_states, classes, ranges, groups, layout_at, dom_at, prod_at, len_at, symbol_at, act_at, goto_at, range_at, hi_at, range_class_at, move_at, scan_at, rej_at, poss_at, group_at, chosen_at, needed, act, action_of}
use Rattle.rules.specs.Rules.{size_right, layout_right, dom_right, lhs_right, len_right, symbol_right, act_right, above_previous, ends_right, class_right, acc_right, rej_right, poss_right, group_right, chosen_right}
use Rattle.numbers.specs.Verdicts.{Verdict, Good, Wrong}

-- One rule: it holds, or this is the place of the wrong word.
unfoldable pub rule : Bool → ℕ → Verdict
rule holds place = elim holds [ true ↦ Good | false ↦ Wrong place ]

-- Two tests, one after the other.
unfoldable pub and_then : Verdict → Verdict → Verdict
and_then first second = elim first [ Good ↦ second | Wrong place ↦ Wrong place ]

-- The tests number i, i+1, .. one after the other, n of them.
unfoldable pub each : (ℕ → Verdict) → ℕ → ℕ → Verdict
each test zero i = Good
each test (suc n) i = elim (test i) [ Good ↦ each test n (i + 1) | Wrong place ↦ Wrong place ]

-- The head: word 0 is 1; each size, the word of which may be missing; and the length of the whole, which is wrong at the smaller of the
-- length that is given and the one that is needed.
unfoldable pub size_rule : List ℕ → ℕ → Verdict
size_rule img i = rule (size_right img i) i

unfoldable pub length_rule : List ℕ → Verdict
length_rule img = rule (eqb (length img) (needed img)) (min (length img) (needed img))

unfoldable pub head_rules : List ℕ → Verdict
head_rules img =
    and_then (rule (eqb (word img 0) 1) 0)
    (and_then (each (size_rule img) size_words 1)
    (length_rule img))

-- The tables of the parser in their order, word by word: layout, dom, prod, act and goto.
unfoldable pub layout_rule : List ℕ → Verdict
layout_rule img = rule (layout_right img) layout_at

unfoldable pub dom_rule : List ℕ → ℕ → Verdict
dom_rule img t = rule (dom_right img t) (dom_at t)

unfoldable pub symbol_rule : List ℕ → ℕ → ℕ → Verdict
symbol_rule img p i = rule (symbol_right img p i) (symbol_at img p i)

unfoldable pub prod_rule : List ℕ → ℕ → Verdict
prod_rule img p =
    and_then (rule (lhs_right img p) (prod_at img p))
    (and_then (rule (len_right img p) (len_at img p))
    (each (symbol_rule img p) most_symbols 0))

unfoldable pub act_rule : List ℕ → ℕ → ℕ → Verdict
act_rule img s t = rule (act_right img t (action_of (act img s t))) (act_at img s t)

-- A goto is at most S, and a move at most Q: the word at a place is at most so much.
unfoldable pub cell_rule : List ℕ → ℕ → ℕ → Verdict
cell_rule img most at = rule (leb (word img at) most) at

unfoldable pub goto_rules : List ℕ → Verdict
goto_rules img = each (λ s. each (λ n. cell_rule img (states img) (goto_at img s n)) (nonterminals img) 0) (states img) 0

unfoldable pub parser_rules : List ℕ → Verdict
parser_rules img =
    and_then (layout_rule img)
    (and_then (each (dom_rule img) (terminals img) 0)
    (and_then (each (prod_rule img) (productions img) 0)
    (and_then (each (λ s. each (act_rule img s) (terminals img) 0) (states img) 0)
    (goto_rules img))))

-- Those of the scanner: class, move, scan and group.
unfoldable pub range_rule : List ℕ → ℕ → Verdict
range_rule img r =
    and_then (rule (above_previous img r) (range_at img r))
    (and_then (rule (ends_right img r) (hi_at img r))
    (rule (class_right img r) (range_class_at img r)))

unfoldable pub move_rules : List ℕ → Verdict
move_rules img = each (λ q. each (λ c. cell_rule img (scan_states img) (move_at img q c)) (classes img) 0) (scan_states img) 0

unfoldable pub scan_rule : List ℕ → ℕ → Verdict
scan_rule img q =
    and_then (rule (acc_right img q) (scan_at img q))
    (and_then (rule (rej_right img q) (rej_at img q))
    (rule (poss_right img q) (poss_at img q)))

unfoldable pub group_rule : List ℕ → ℕ → Verdict
group_rule img g =
    and_then (rule (group_right img g) (group_at img g))
    (rule (chosen_right img g) (chosen_at img g))

unfoldable pub scanner_rules : List ℕ → Verdict
scanner_rules img =
    and_then (each (range_rule img) (ranges img) 0)
    (and_then (move_rules img)
    (and_then (each (scan_rule img) (scan_states img) 0)
    (each (group_rule img) (groups img) 0)))

-- The head, on which the rest of the test leans, and then the tables.
unfoldable pub shape : List ℕ → Verdict
shape img = and_then (head_rules img) (and_then (parser_rules img) (scanner_rules img))
