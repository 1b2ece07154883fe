-- From what the pass over the productions counts to the rules of the shape. Assumes nothing.
use mathlib.Core.Path.{◌≡◌, refl, sym, ap, ◌∙◌}
use mathlib.Core.Bool.{Bool, true, false, ◌&&◌}
use mathlib.Core.List.{List}
use Prim.Native.Nat.{ℕ, zero, suc, ◌+◌, ◌*◌, ◌-◌, ◌^◌, ◌<◌, ◌≤◌}
use native.Mathlib.Nat.{zero-add, add-zero}
use native.Mathlib.Omega.{arith}
use lib.Dec.{eqb, leb, ltb}
use lib.ListN.{length, get_or, take, drop}
use borrow.Author.Tests.{eq-eqb, le-leb, lt-leb, lt-ltb, le-ltb, eqb-false, leb-true, ltb-true, ltb-false}
use Rattle.sets.specs.Sets.{member, several, lowest}
use Rattle.sets.proofs.Laws.{out_lacks}
use Rattle.numbers.specs.Verdicts.{Good}
use Rattle.pack.specs.Image.{word, most_symbols, production_words, first_nonterminal, terminals, nonterminals, productions, prod_start, act_start, prod_at, symbol_at, layout, lhs, len, symbol}
use Rattle.pack.specs.Laid.{Laid}
use Rattle.rules.specs.Rules.{is_symbol, symbol_right}
use Rattle.order.specs.Quick.{sum}
use Rattle.order.specs.Shape.{rule, and_then, each, symbol_rule, prod_rule}
use Rattle.order.proofs.Laws.{each_all}
use Rattle.order.proofs.Sums.{sum-append, sum_same, sum_rows, term, tight}
use Rattle.order.proofs.Sound.{part_at, part_length, only_lowest}
use Rattle.productions.specs.Flat.{past, no_terminal, no_symbol, allowed, Head, Heads}

-- A sum whose terms from one on are 1.
ones_from : (h : ℕ → ℕ) (k d : ℕ) → ((i : ℕ) → i < d → h (k + i) ≡ 1) → sum h (k + d) ≡ sum h k + d
unfolding sum
ones_from h k zero e = rw (add-zero k) (sym (add-zero (sum h k)))
ones_from h k (suc d) e =
    let z : k + suc d ≡ suc (k + d) = omega arith in
    rw z (omega (arith, ones_from h k d (λ i l. e i (omega arith)), e d (omega arith)))

two : (f : ℕ → ℕ) → sum f 2 ≡ f 0 + f 1
unfolding sum
two f = omega arith

-- So many of n terms are 1 that the others leave at most so much.
pub others : (h : ℕ → ℕ) (n k : ℕ) → k ≤ n → ((i : ℕ) → k ≤ i → i < n → h i ≡ 1) → (n - k ≤ sum h n) × ((i : ℕ) → i < k → h i + (n - k) ≤ sum h n)
others h n k l e =
    let s : sum h (k + (n - k)) ≡ sum h k + (n - k) = ones_from h k (n - k) (λ i m. e (k + i) (omega arith) (omega arith)) in
    let z : k + (n - k) ≡ n = omega arith in
    let t = rw z at s in
    (omega (arith, t), λ i m. omega (arith, t, term h k i m))

-- A word that is far behind another is past it.
past_below : (x first most : ℕ) → most + first ≤ 65536 → past x first < most → (first ≤ x) × (x < first + most)
unfolding past
past_below x first most h l = go (leb first x) refl l
  where
    go : (b : Bool) → leb first x ≡ b → elim b as (λ _. ℕ) [ true ↦ x - first | false ↦ x + (65536 - first) ] < most → (first ≤ x) × (x < first + most)
    go true e k = let f = leb-true first x e in (f, omega arith)
    go false e k = absurd (omega arith)

-- What the counts say of a word.
module _ (img : List ℕ) (laid : Laid img) (bound : layout img < 2 ^ 64) (last n one : ℕ) (el : last ≡ terminals img - 1) (en : n ≡ nonterminals img)
    (eo : one ≡ lowest (layout img)) (few : several (layout img) ≡ false) where
  -- One that counts for nothing is a symbol, 0 counts for one, and a number below 64 for as much as it does among the terminals.
  is_symbol_lem : (x : ℕ) → no_symbol last n one x ≡ 0 → is_symbol img x ≡ true
  unfolding no_symbol no_terminal is_symbol
  is_symbol_lem x z = go (ltb (past x first_nonterminal) n) refl (eqb x one) refl (ltb (past x 1) last) refl (member (layout img) x) refl
    where
      go : (a : Bool) → ltb (past x first_nonterminal) n ≡ a → (b : Bool) → eqb x one ≡ b → (c : Bool) → ltb (past x 1) last ≡ c
          → (d : Bool) → member (layout img) x ≡ d → is_symbol img x ≡ true
      go true ea b eb c ec d ed =
          let r = past_below x first_nonterminal n (omega arith) (ltb-true _ _ ea) in
          simp (is_symbol, le-ltb x (terminals img) (omega arith), le-leb first_nonterminal x r.0, lt-ltb x (first_nonterminal + nonterminals img) (omega (arith, r.1)), ◌&&◌)
      go false ea true eb c ec d ed = let y : no_symbol last n one x ≡ 1 = simp (no_symbol, ea, no_terminal, eb) in absurd (omega arith)
      go false ea false eb false ec d ed = let y : no_symbol last n one x ≡ 1 = simp (no_symbol, ea, no_terminal, eb, ec) in absurd (omega arith)
      go false ea false eb true ec true ed =
          let r = past_below x 1 last (omega arith) (ltb-true _ _ ec) in
          absurd (eqb-false _ _ eb (only_lowest (layout img) x bound few (omega (arith, r.1)) ed ∙ sym eo))
      go false ea false eb true ec false ed =
          let r = past_below x 1 last (omega arith) (ltb-true _ _ ec) in
          simp (is_symbol, lt-ltb x (terminals img) (omega (arith, r.1)), le-leb 1 x r.0, out_lacks _ _ ed, ◌&&◌)

  counts_low : (x : ℕ) → x < first_nonterminal → no_symbol last n one x ≡ no_terminal last one x
  unfolding no_symbol past
  counts_low x l =
      let p : past x first_nonterminal ≡ x + (65536 - first_nonterminal) = simp (past, lt-leb first_nonterminal x l) in
      simp (no_symbol, le-ltb (past x first_nonterminal) n (omega arith))

  counts_zero : no_symbol last n one 0 ≡ 1
  unfolding no_terminal past
  counts_zero = counts_low 0 (omega arith) ∙ go (eqb 0 one) refl
    where
      go : (b : Bool) → eqb 0 one ≡ b → no_terminal last one 0 ≡ 1
      go true e = simp (no_terminal, e)
      go false e = simp (no_terminal, e, le-ltb 65535 last (omega arith))

  -- A row has as many words that are no symbols as it may, or more; where it has no more, all that it uses are symbols.
  abbrev row : ℕ → ℕ → ℕ
  row p j = no_symbol last n one (word img (prod_at img p + j))

  abbrev symbols : ℕ → ℕ → ℕ
  symbols p i = no_symbol last n one (symbol img p i)

  module _ (p : ℕ) (head : Head img p) where
    left_side : row p 0 ≡ no_terminal last one (lhs img p)
    unfolding lhs
    left_side = rw (add-zero (prod_at img p)) (counts_low (lhs img p) (omega (arith, head.left, laid.sized.n_most)))

    length-word : row p 1 ≡ no_terminal last one (len img p)
    unfolding len
    length-word = counts_low (len img p) (omega (arith, head.short))

    symbol_words : sum (λ i. row p (2 + i)) most_symbols ≡ sum (symbols p) most_symbols
    unfolding symbol
    symbol_words =
        sum_same _ _ most_symbols (λ i l. let z : prod_at img p + (2 + i) ≡ symbol_at img p i = omega arith in rw z refl)

    parts : sum (row p) production_words ≡ no_terminal last one (lhs img p) + no_terminal last one (len img p) + sum (symbols p) most_symbols
    parts = sum-append (row p) 2 most_symbols ∙ omega (arith, two (row p), left_side, length-word, symbol_words)

    unused : (i : ℕ) → len img p ≤ i → i < most_symbols → symbols p i ≡ 1
    unused i l h = rw (head.unused i l h) counts_zero

    at_least : allowed img last one p ≤ sum (row p) production_words
    unfolding allowed
    at_least = omega (arith, parts, (others (symbols p) most_symbols (len img p) head.short unused).0)

    used_right : sum (row p) production_words ≤ allowed img last one p → (i : ℕ) → i < len img p → is_symbol img (symbol img p i) ≡ true
    unfolding allowed
    used_right h i l = is_symbol_lem (symbol img p i) (omega (arith, parts, h, (others (symbols p) most_symbols (len img p) head.short unused).1 i l))

    prod_good : sum (row p) production_words ≤ allowed img last one p → prod_rule img p ≡ Good
    unfolding prod_rule symbol_rule rule and_then
    prod_good h =
        simp (prod_rule, rule, and_then, lt-ltb (lhs img p) (nonterminals img) head.left, le-leb (len img p) most_symbols head.short)
        (each_all (symbol_rule img p) most_symbols 0 (λ i l. rw (zero-add i) (go i l (ltb i (len img p)) refl)))
      where
        go : (i : ℕ) → i < most_symbols → (b : Bool) → ltb i (len img p) ≡ b → symbol_rule img p i ≡ Good
        go i l true e =
            let r : symbol_right img p i ≡ true = simp (symbol_right, e, used_right h i (ltb-true _ _ e)) in
            simp (symbol_rule, rule, r)
        go i l false e =
            let r : symbol_right img p i ≡ true = simp (symbol_right, e, eq-eqb (symbol img p i) 0 (head.unused i (ltb-false _ _ e) l)) in
            simp (symbol_rule, rule, r)

  -- All rows together have no more than they may, so none has more.
  module _ (start end : ℕ) (es : start ≡ prod_start img) (ee : end ≡ act_start img) where
    abbrev cells : List ℕ
    cells = take (end - start) (drop start img)

    all_cells : length cells ≡ productions img * production_words
    all_cells =
        let z : end - start ≡ productions img * production_words = omega arith in
        rw z (part_length img start (productions img * production_words) (omega (arith, laid.whole)))

    there : (p j : ℕ) → p < productions img → j < production_words → get_or cells (p * production_words + j) 0 ≡ word img (prod_at img p + j)
    there p j l m =
        let z : start + (p * production_words + j) ≡ prod_at img p + j = omega arith in
        part_at img start (end - start) (p * production_words + j) (omega arith) ∙ rw z refl

    pub flat_good : {most : ℕ} → most ≡ sum (λ j. no_symbol last n one (get_or cells j 0)) (length cells) → Heads img last one most
        → each (prod_rule img) (productions img) 0 ≡ Good
    flat_good {most} c heads =
        each_all (prod_rule img) (productions img) 0 (λ p l. rw (zero-add p) (prod_good p (heads.each p l) (no_more p l)))
      where
        by_rows : most ≡ sum (λ p. sum (row p) production_words) (productions img)
        by_rows =
            (rw all_cells at c) ∙ sum_rows (λ i. no_symbol last n one (get_or cells i 0)) production_words (productions img)
            ∙ sum_same _ _ (productions img) (λ p l. sum_same _ _ production_words (λ j m. ap (λ (x : ℕ). no_symbol last n one x) (there p j l m)))

        no_more : (p : ℕ) → p < productions img → sum (row p) production_words ≤ allowed img last one p
        no_more =
            tight (allowed img last one) (λ p. sum (row p) production_words) (productions img) (λ p l. at_least p (heads.each p l))
            (rw by_rows at heads.enough)
