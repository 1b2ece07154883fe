-- From what the quick passes promise to the rules of the shape. Assumes nothing.
use mathlib.Core.Path.{◌≡◌, refl, sym, ap, ◌∙◌}
use mathlib.Core.Bool.{Bool, true, false, ◌&&◌}
use mathlib.Core.List.{List}
use Prim.Native.Nat.{ℕ, zero, suc, ◌+◌, ◌*◌, ◌-◌, ◌/◌, ◌%◌, ◌<◌, ◌≤◌, ◌^◌, min, max}
use native.Mathlib.Nat.{zero-add, add-zero, add-mul, mul-le-mul_right, mod-lt}
use native.Mathlib.Omega.{arith}
use lib.Arith.{digits_lt}
use lib.Bits.{bit_or, or_step}
use lib.Dec.{eqb, ltb}
use lib.ListN.{length, get_or, take, drop, length-drop}
use lib.Seq.{length-take-le, get_or-take, get_or-drop}
use borrow.Author.Tests.{eq-eqb, ne_eqb, le-leb, lt-ltb, eqb-true, eqb-false, leb-false, ltb-true}
use Rattle.sets.specs.Sets.{has, member, lacks, is_empty, several, count, lowest}
use Rattle.sets.proofs.Laws.{out_lacks, has_none, has-or, or_left, or_right, lowest_lt, lowest_in, at_most_one}
use Rattle.numbers.specs.Verdicts.{Good}
use Rattle.order.specs.declared.Ruled.TheVariants.{Dom, Act, Scan}
use Rattle.pack.specs.Image.{word, set_words, set_at, terminals, productions, states, scan_states, dom_start, act_start, scan_start, act_at, scan_at, rej_at, poss_at, layout, dom, act, action_of, acc, rej, poss}
use Rattle.pack.specs.Laid.{Laid}
use Rattle.order.specs.Quick.{Above, sum, accept, Limited, Codes, First, Shut, Part, Parts, Apart}
use Rattle.order.specs.Rows.{row_rule}
use Rattle.order.specs.Shape.{rule, and_then, each, dom_rule, act_rule, cell_rule, scan_rule}
use Rattle.rules.specs.Rules.{fits, dom_right, act_right, empty_at_start, acc_right, rej_right}
use Rattle.order.proofs.Laws.{both, each_all}
use Rattle.order.proofs.Sums.{sum_same, sum_rows, first, first_and, tight}

-- A part of the image, by its words.
pub part_at : (img : List ℕ) (start n j : ℕ) → j < n → get_or (take n (drop start img)) j 0 ≡ word img (start + j)
part_at img start n j l = get_or-take n (drop start img) j 0 l ∙ get_or-drop start img j 0

pub part_length : (img : List ℕ) (start n : ℕ) → start + n ≤ length img → length (take n (drop start img)) ≡ n
part_length img start n h = length-take-le n (drop start img) (omega (arith, length-drop start img))

-- Where no word of a run is above the most it may be, each is right.
pub all_below : (img : List ℕ) (start n end most : ℕ) {top : ℕ} → end ≡ start + n → start + n ≤ length img
    → Above (take (end - start) (drop start img)) top → top ≤ most → Good ≡ each (λ i. cell_rule img most (start + i)) n 0
unfolding cell_rule rule
all_below img start n end most e h a m =
    let z : end - start ≡ n = omega arith in
    let b = rw z at a in
    sym (each_all _ n 0 (λ i l.
    simp (
      cell_rule,
      rule,
      zero-add i,
      le-leb (word img (start + i)) most (omega (arith, part_at img start n i l, b.each i (omega (arith, part_length img start n h)))),
    )))

-- What is neither 0 nor 1, and what is below 2 and not 0.
at_least_two : (x : ℕ) → (x ≡ 0 → ⊥) → (x ≡ 1 → ⊥) → 2 ≤ x
at_least_two zero p q = absurd (p refl)
at_least_two (suc zero) p q = absurd (q refl)
at_least_two (suc (suc x)) p q = omega arith

not_zero : (x : ℕ) → (x ≡ 0 → ⊥) → 1 ≤ x
not_zero zero p = absurd (p refl)
not_zero (suc x) p = omega arith

is_one : (x : ℕ) → x < 2 → (x ≡ 0 → ⊥) → x ≡ 1
is_one zero l p = absurd (p refl)
is_one (suc zero) l p = refl
is_one (suc (suc x)) l p = absurd (omega arith)

-- One limit is even and the other odd. So a code is within its own where it is not above the greater one, and above the lesser one, if at all, by
-- an odd number.
own_limit : (s p code : ℕ) → code ≤ max (s * 2) (p * 2 + 1) → (code - (min (s * 2) (p * 2 + 1) + 1)) % 2 ≡ 0 → Limited (s * 2) (p * 2 + 1) code
own_limit s p code h k = record { even = λ e. omega arith; odd = λ e. omega arith }

-- Numbers joined are even where each is.
pub or_even : (a b : ℕ) → bit_or a b % 2 ≡ 0 → (a % 2 ≡ 0) × (b % 2 ≡ 0)
or_even a b e = (omega (arith, or_step a b), omega (arith, or_step a b))

-- A code within its limit is right, where it stands as it may.
module _ (img : List ℕ) (t code : ℕ) (shut : member (layout img) t ≡ true → code ≡ 0) (no_shift : t ≡ 0 → code % 2 ≡ 0 → code ≡ 0)
    (accepts : code ≡ 1 → t ≡ 0) (limited : Limited (states img * 2) (productions img * 2 + 1) code) where
  code_right : act_right img t (action_of code) ≡ true
  unfolding act_right action_of
  code_right = go (eqb code 0) refl (eqb code 1) refl (member (layout img) t) refl (eqb ((code - 2) % 2) 0) refl
    where
      go : (a : Bool) → eqb code 0 ≡ a → (b : Bool) → eqb code 1 ≡ b → (m : Bool) → member (layout img) t ≡ m → (c : Bool)
          → eqb ((code - 2) % 2) 0 ≡ c → act_right img t (action_of code) ≡ true
      go true ea b eb m em c ec = simp (action_of, ea, act_right)
      go false ea true eb m em c ec = simp (action_of, ea, eb, act_right, eq-eqb t 0 (accepts (eqb-true _ _ eb)))
      go false ea false eb true em c ec = absurd (eqb-false code 0 ea (shut em))
      go false ea false eb false em true ec =
          let k = at_least_two code (eqb-false code 0 ea) (eqb-false code 1 eb) in
          let p : (code - 2) % 2 ≡ 0 = eqb-true _ _ ec in
          let e : code % 2 ≡ 0 = omega arith in
          let l : 1 ≤ t = not_zero t (λ z. eqb-false code 0 ea (no_shift z e)) in
          let q : (code - 2) / 2 < states img = omega (arith, limited.even e) in
          simp (action_of, ea, eb, ec, act_right, out_lacks _ _ em, ◌&&◌, le-leb _ _ l, lt-ltb _ _ q)
      go false ea false eb false em false ec =
          let k = at_least_two code (eqb-false code 0 ea) (eqb-false code 1 eb) in
          let p : (code - 2) % 2 ≡ 1 = is_one ((code - 2) % 2) (mod-lt (code - 2) (omega arith)) (eqb-false ((code - 2) % 2) 0 ec) in
          let q : (code - 2) / 2 < productions img = omega (arith, limited.odd (omega arith)) in
          simp (action_of, ea, eb, ec, act_right, out_lacks _ _ em, ◌&&◌, lt-ltb _ _ q)

-- So many rows of the action table end within the image.
pub rows_within : (img : List ℕ) (s : ℕ) → Laid img → s ≤ states img → act_start img + s * terminals img ≤ length img
rows_within img s laid h = omega (arith, laid.whole, mul-le-mul_right (terminals img) h)

-- Rows of the action table are right where each code is within its limit, the layout columns are shut there, column 0 has no shift, and no more
-- codes accept than in that column.
module _ (img : List ℕ) (from rows : ℕ) (laid : Laid img) (within : from + rows ≤ states img) (start end : ℕ)
    (es : start ≡ act_start img + from * terminals img) (ee : end ≡ act_start img + (from + rows) * terminals img) where
  -- The words of these rows, and 1 for a cell that accepts.
  abbrev cells : List ℕ
  cells = take (end - start) (drop start img)

  abbrev accepts : ℕ → ℕ → ℕ
  accepts s t = accept (act img (from + s) t)

  acts_length : length cells ≡ rows * terminals img
  acts_length =
      let z : end - start ≡ rows * terminals img = omega (arith, add-mul from rows (terminals img)) in
      rw z (part_length img start (rows * terminals img) (omega (arith, rows_within img (from + rows) laid within)))

  -- A cell is one of the words.
  module _ {s t : ℕ} (ls : s < rows) (lt : t < terminals img) where
    inside : s * terminals img + t < length cells
    inside = omega (arith, acts_length, digits_lt ls lt)

    there : get_or cells (s * terminals img + t) 0 ≡ act img (from + s) t
    unfolding act
    there =
        let z : start + (s * terminals img + t) ≡ act_at img (from + s) t = omega (arith, add-mul from s (terminals img)) in
        part_at img start (end - start) (s * terminals img + t) (omega (arith, inside, acts_length)) ∙ rw z refl

  pub acts_good : {low most apart over n : ℕ} → Codes cells low most apart over n → low ≡ min (states img * 2) (productions img * 2 + 1) + 1
      → most ≡ max (states img * 2) (productions img * 2 + 1) → apart % 2 ≡ 0 → over ≡ 0 → First img from rows n → Shut img from rows
      → each (row_rule img Act) rows from ≡ Good
  unfolding row_rule act_rule rule accept
  acts_good {low} {most} {n = n} c el em ea eo f shut =
      each_all _ rows from (λ s ls. each_all (act_rule img (from + s)) (terminals img) 0 (λ t lt. rw (zero-add t) (right ls lt)))
    where
      by_rows : n ≡ sum (λ s. sum (accepts s) (terminals img)) rows
      by_rows =
          (rw acts_length at c.accepts) ∙ sum_rows (λ i. accept (get_or cells i 0)) (terminals img) rows
          ∙ sum_same _ _ rows (λ s ls. sum_same _ _ (terminals img) (λ t lt. ap (λ (x : ℕ). accept x) (there ls lt)))

      no_more : (s : ℕ) → s < rows → sum (accepts s) (terminals img) ≤ accepts s 0
      no_more =
          tight (λ s. accepts s 0) (λ s. sum (accepts s) (terminals img)) rows (λ s l. first (accepts s) (terminals img) (omega arith))
          (rw by_rows at f.accepts)

      in_first : (s t : ℕ) → s < rows → t < terminals img → act img (from + s) t ≡ 1 → t ≡ 0
      in_first s zero ls lt e = refl
      in_first s (suc t) ls lt e =
          let a : accepts s (suc t) ≡ 1 = simp (accept, e) in
          absurd (omega (arith, no_more s ls, first_and (accepts s) (terminals img) (suc t) (omega arith) lt))

      limited : {s t : ℕ} → s < rows → t < terminals img → Limited (states img * 2) (productions img * 2 + 1) (act img (from + s) t)
      limited ls lt =
          own_limit _ _ _ (rw (there ls lt, em, eo, add-zero) at (c.each.each _ (inside ls lt))) (rw (there ls lt, el) at (c.even ea _ (inside ls lt)))

      right : {s t : ℕ} → s < rows → t < terminals img → act_rule img (from + s) t ≡ Good
      right {s} {t} ls lt =
          let l = limited ls lt in
          let r = code_right img t _ (λ m. shut.each t lt m s ls) (λ z. rw z (f.no_shift s ls)) (in_first s t ls lt) l in
          simp (act_rule, rule, r)

-- The terminals of a set with at most one are the lowest.
pub only_lowest : (set t : ℕ) → set < 2 ^ 64 → several set ≡ false → t < 64 → member set t ≡ true → t ≡ lowest set
unfolding several member
only_lowest set t b s l e =
    let h : has set t ≡ 1 = eqb-true _ _ e in
    let m : lowest set < 64 = lowest_lt 64 set b (λ z. let y : has set t ≡ 0 = rw z (has_none t) in omega arith) in
    at_most_one 64 set t (lowest set) (omega (arith, leb-false 2 (count set) s)) l m h (lowest_in 64 set m)

-- The code at its place.
pub code_at : (img : List ℕ) (s t : ℕ) {at : ℕ} → at ≡ act_at img s t → word img at ≡ act img s t
unfolding act
code_at img s t e = rw e refl

-- A set that is part of one that fits does too.
pub part_more : {set all : ℕ} (more : ℕ) → Part set all → Part set (bit_or all more)
part_more {all = all} more p =
    record { below = omega (arith, p.below, or_left all more); end = λ z. p.end (omega (arith, has-or all more 0)) }

pub part_last : (all more : ℕ) → Part more (bit_or all more)
part_last all more =
    record { below = or_right all more; end = λ z. omega (arith, has-or all more 0) }

part_fits : (img : List ℕ) (set all : ℕ) → Part set all → fits img all ≡ true → fits img set ≡ true
unfolding fits lacks
part_fits img set all p e =
    let b = both (ltb all (2 ^ terminals img)) (eqb (has all 0) 0) e in
    let h : all < 2 ^ terminals img = ltb-true _ _ b.0 in
    let l : set < 2 ^ terminals img = omega (arith, p.below) in
    simp (fits, lacks, lt-ltb _ _ l, eq-eqb _ _ (p.end (eqb-true _ _ b.1)), ◌&&◌)

-- The sets of dom, and those of the scan states.
module _ (img : List ℕ) {all : ℕ} (f : fits img all ≡ true) where
  pub doms_good : {n : ℕ} → n ≡ terminals img → Parts img dom_start n all → dom img 0 ≡ 0
      → ((t : ℕ) → t < terminals img → member (dom img t) t ≡ false) → each (row_rule img Dom) (terminals img) 0 ≡ Good
  unfolding row_rule dom_rule dom_right rule dom is_empty
  doms_good en p first none = each_all (dom_rule img) (terminals img) 0 (λ t l. rw (zero-add t) (go t l))
    where
      go : (t : ℕ) → t < terminals img → dom_rule img t ≡ Good
      go zero l =
          let r : dom_right img 0 ≡ true = simp (dom_right, is_empty, eq-eqb _ _ first) in
          simp (dom_rule, rule, r)
      go (suc t) l =
          let s = part_fits img _ all (p.each (suc t) (omega arith)) f in
          let r : dom_right img (suc t) ≡ true =
          simp (dom_right, ne_eqb (suc t) 0 (λ z. omega arith), s, out_lacks _ _ (none (suc t) l), ◌&&◌) in
          simp (dom_rule, rule, r)

  pub scans_good : {start n : ℕ} → start ≡ scan_start img → n ≡ 3 * scan_states img → Parts img start n all → acc img 0 ≡ 0
      → rej img 0 ≡ 0 → Apart img → each (row_rule img Scan) (scan_states img) 0 ≡ Good
  unfolding row_rule scan_rule rule and_then empty_at_start is_empty acc rej poss
  scans_good {start} {n} es en p first second apart = each_all (scan_rule img) (scan_states img) 0 (λ q l. rw (zero-add q) (go q l))
    where
      set-fits : (q k : ℕ) → q < scan_states img → k < 3 → fits img (set_at img (start + (3 * q + k) * set_words)) ≡ true
      set-fits q k l h = part_fits img _ all (p.each (3 * q + k) (omega arith)) f

      acc-fits : (q : ℕ) → q < scan_states img → fits img (acc img q) ≡ true
      acc-fits q l = let z : start + (3 * q + 0) * set_words ≡ scan_at img q = omega arith in rw z at (set-fits q 0 l (omega arith))

      rej-fits : (q : ℕ) → q < scan_states img → fits img (rej img q) ≡ true
      rej-fits q l = let z : start + (3 * q + 1) * set_words ≡ rej_at img q = omega arith in rw z at (set-fits q 1 l (omega arith))

      poss-fits : (q : ℕ) → q < scan_states img → fits img (poss img q) ≡ true
      poss-fits q l = let z : start + (3 * q + 2) * set_words ≡ poss_at img q = omega arith in rw z at (set-fits q 2 l (omega arith))

      acc_is : (q : ℕ) → q < scan_states img → acc_right img q ≡ true
      acc_is zero l = simp (acc-fits zero l, empty_at_start, is_empty, eq-eqb _ _ first, ◌&&◌)
      acc_is (suc q) l = simp (acc-fits (suc q) l, empty_at_start, ne_eqb (suc q) 0 (λ z. omega arith), ◌&&◌)

      rej_is : (q : ℕ) → q < scan_states img → rej_right img q ≡ true
      rej_is zero l = simp (rej-fits zero l, empty_at_start, is_empty, eq-eqb _ _ second, eq-eqb _ _ (apart.each zero l), ◌&&◌)
      rej_is (suc q) l = simp (rej-fits (suc q) l, empty_at_start, ne_eqb (suc q) 0 (λ z. omega arith), is_empty, eq-eqb _ _ (apart.each (suc q) l), ◌&&◌)

      go : (q : ℕ) → q < scan_states img → scan_rule img q ≡ Good
      go q l = simp (scan_rule, rule, and_then, acc_is q l, rej_is q l, poss-fits q l)

-- Where the sets end.
module _ (img : List ℕ) (laid : Laid img) where
  pub doms_within : {n : ℕ} → n ≡ terminals img → dom_start + n * set_words ≤ length img
  doms_within e = omega (arith, laid.whole)

  pub scans_within : {start n : ℕ} → start ≡ scan_start img → n ≡ 3 * scan_states img → start + n * set_words ≤ length img
  scans_within e f = omega (arith, laid.whole)

-- What is false is not true.
pub not_true : {A : Type 0} → false ≡ true → A
not_true e = let z : ◌≡◌ {A = ℕ} 0 1 = cc in absurd (omega arith)
