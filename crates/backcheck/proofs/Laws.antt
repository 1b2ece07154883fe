-- Laws of the test of K5, as the code comes by them. Assumes nothing.
use mathlib.Core.Path.{◌≡◌, refl, sym, ◌∙◌}
use mathlib.Core.Bool.{Bool, true, false}
use mathlib.Core.List.{List}
use Prim.Native.Nat.{ℕ, zero, suc, ◌+◌, ◌*◌, ◌-◌, ◌<◌, ◌≤◌}
use native.Mathlib.Omega.{arith}
use lib.Dec.{eqb, ltb}
use borrow.Author.Tests.{eqb-true, ltb-true, ltb-false}
use Rattle.sets.specs.Sets.{member}
use Rattle.pack.specs.Image.{terminals, productions, states, len, act}
use Rattle.numbers.specs.Verdicts.{Good}
use Rattle.shape.specs.Shape.{shape}
use Rattle.shape.proofs.GoodParser.{good_reduce}
use Rattle.conditions.specs.Tests.{all_below, implies}
use Rattle.conditions.specs.Conditions.{reduces, steps, ends, k5}
use Rattle.conditions.specs.Check.{c5, test, in_row}
use Rattle.conditions.proofs.WalkLaws.{in_row_on, in_row_end}
use Rattle.conditions.proofs.TestLaws.{some_one}
use Rattle.edges.specs.Rows.{Whole, Next}

-- K5 of a production: the row does not reduce by it; a step fails; the end decides.
module _ (img : List ℕ) (s p : ℕ) where
  pub k5_none : reduces img s p ≡ false → k5 img s p ≡ true
  unfolding k5 implies
  k5_none e = rw e

  pub k5-steps : {r : Bool} → reduces img s p ≡ true → r ≡ all_below (len img p) (steps img s p) → r ≡ false → false ≡ k5 img s p
  unfolding k5 implies
  k5-steps e er f = sym (rw (e, sym er ∙ f))

  pub k5_end : {r q : Bool} → reduces img s p ≡ true → r ≡ all_below (len img p) (steps img s p) → r ≡ true → q ≡ ends img s p → q ≡ k5 img s p
  unfolding k5 implies
  k5_end e er f eq = eq ∙ sym (rw (e, sym er ∙ f))

  -- What a row reduces by is a production.
  pub reduced : shape img ≡ Good → s < states img → reduces img s p ≡ true → p < productions img
  unfolding reduces
  reduced good ls e =
      let r = some_one (terminals img) (λ t. eqb (act img s t) (3 + 2 * p)) e in
      good_reduce img good s r.0 p ls r.1 (eqb-true (act img s r.0) (3 + 2 * p) r.2)

-- A row of places from one that is right to the next that may not be.
in_row_past : (right : ℕ → Bool) (i n j k : ℕ) → ((t : ℕ) → j ≤ t → t < j + k → right t ≡ true) → in_row right i (n - j) j ≡ in_row right i (n - (j + k)) (j + k)
in_row_past right i n j zero h = let z : j + 0 ≡ j = omega arith in rw z
in_row_past right i n j (suc k) h = in_row_past right i n j k (λ t l m. h t l (omega arith)) ∙ go (ltb (j + k) n) refl
  where
    next : j + k + 1 ≡ j + suc k
    next = omega arith

    go : (b : Bool) → ltb (j + k) n ≡ b → in_row right i (n - (j + k)) (j + k) ≡ in_row right i (n - (j + suc k)) (j + suc k)
    go true e = rw next at (in_row_on right i n (j + k) (ltb-true _ _ e) (h (j + k) (omega arith) (omega arith)))
    go false e = let l = ltb-false (j + k) n e in in_row_end right i n (j + k) l ∙ sym (in_row_end right i n (j + suc k) (omega arith))

-- Row s of K5, from a production on to the next that it reduces by.
pub row_past : (img : List ℕ) (s n : ℕ) {by j k : ℕ} → Whole (reduces img s) by → Next (member by) 128 j k → in_row (test c5 img s) s (n - j) j ≡ in_row (test c5 img s) s (n - k) k
unfolding test
row_past img s n {by} {j} {k} w next =
    let z : j + (k - j) ≡ k = omega (arith, next.from) in
    rw z at (in_row_past (test c5 img s) s n j (k - j) (λ t l m. k5_none img s t (sym (w.each t (omega (arith, next.most))) ∙ next.none t l (omega arith))))

-- What a set of reductions has is a production that the row reduces by.
pub reduces_by : (img : List ℕ) (s : ℕ) {by j k : ℕ} → Whole (reduces img s) by → Next (member by) 128 j k → k < 128 → reduces img s k ≡ true
reduces_by img s {by} {j} {k} w next l = sym (w.each k l) ∙ next.there l
