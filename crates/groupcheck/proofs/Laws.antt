-- Laws of the test of K3, as the code comes by them. Assumes nothing.
use mathlib.Core.Path.{◌≡◌, refl, sym, ap, ◌∙◌}
use mathlib.Core.Bool.{Bool, true, false}
use mathlib.Core.List.{List}
use Prim.Native.Nat.{ℕ, zero, suc, ◌+◌, ◌-◌, ◌/◌, ◌<◌, ◌≤◌}
use native.Mathlib.Nat.{not-suc-le-zero}
use native.Mathlib.Omega.{arith}
use lib.Dec.{ltb}
use lib.Bits.{bit_and, bit_or, and_step, and_comm, and_le_l}
use borrow.Author.Tests.{lt-leb, leb-false, ltb-true, ltb-false}
use Rattle.sets.specs.Sets.{has, count_below, several}
use Rattle.sets.proofs.Laws.{has-lt, has-and, has-or, ext}
use Rattle.pack.specs.Image.{scan_states, acc}
use Rattle.conditions.specs.Tests.{implies}
use Rattle.conditions.specs.Conditions.{Subset, is_group, sought, settled, k3}
use Rattle.conditions.specs.Check.{c3, test, in_row, in_rows}
use Rattle.conditions.proofs.TestLaws.{below_power}
use Rattle.conditions.proofs.WalkLaws.{rest, row_on, row_end}
use Rattle.groupcheck.specs.Together.{Together}

-- A part of a set has no more terminals than the set.
fewer : (k a b : ℕ) → count_below k (bit_and a b) ≤ count_below k a
unfolding count_below
fewer zero a b = omega arith
fewer (suc k) a b =
    let e : bit_and a b / 2 ≡ bit_and (a / 2) (b / 2) = omega (arith, and_step a b) in
    rw e (omega (arith, fewer k (a / 2) (b / 2), has-and a b 0))

few_left : (a b : ℕ) → several a ≡ false → several (bit_and a b) ≡ false
unfolding several
few_left a b e = lt-leb 2 (count_below 64 (bit_and a b)) (omega (arith, leb-false 2 (count_below 64 a) e, fewer 64 a b))

few_right : (a b : ℕ) → several b ≡ false → several (bit_and a b) ≡ false
few_right a b e = rw (and_comm a b) (few_left b a e)

-- The sets of the scan states, one more.
pub together_none : (img : List ℕ) → Together img 0 0
together_none img = record { each = λ q l. absurd (not-suc-le-zero l) }

pub together_more : (img : List ℕ) (n : ℕ) {set a c : ℕ} → Together img n set → a ≡ acc img n → (several a ≡ true → c ≡ a) → Together img (n + 1) (bit_or set c)
together_more img n {set} {a} {c} t ea ec = record { each = λ q l s. go q l s (ltb q n) refl }
  where
    go : (q : ℕ) → q < n + 1 → several (acc img q) ≡ true → (x : Bool) → ltb q n ≡ x → Subset (acc img q) (bit_or set c)
    go q l s true e = record { each = λ u h. omega (arith, has-or set c u, has-lt c u, (t.each q (ltb-true q n e) s).each u h) }
    go q l s false e =
        let z : q ≡ n = omega (arith, ltb-false q n e) in
        let y : c ≡ acc img q = ec (rw (ea, ← z) s) ∙ ea ∙ ap (λ (k : ℕ). acc img k) (sym z) in
        record { each = λ u h. omega (arith, has-or set c u, has-lt set u, h, ap (λ (k : ℕ). has k u) y) }

-- A pair of K3, for what a parse state allows, and layout, of the terminals that are accepted together with others.
pub pairs : (img : List ℕ) (s : ℕ) {nq vs crowd : ℕ} → nq ≡ scan_states img → vs ≡ sought img s → Together img (scan_states img) crowd
    → (q : ℕ) → q < nq → settled img q (bit_and vs crowd) ≡ test c3 img s q
unfolding test k3 settled implies
pairs img s {nq} {vs} {crowd} en ev t q l = rw (← ev) (go (several (acc img q)) refl)
  where
    go : (b : Bool) → several (acc img q) ≡ b → settled img q (bit_and vs crowd) ≡ settled img q vs
    go false e = simp (settled, implies, few_left (acc img q) (bit_and vs crowd) e, few_left (acc img q) vs e)
    go true e = ap (λ (both : ℕ). implies (several both) (is_group img both)) (ext (acc img q) (bit_and (acc img q) (bit_and vs crowd)) (bit_and (acc img q) vs)
        (omega (arith, below_power (acc img q), and_le_l (acc img q) (bit_and vs crowd))) (omega (arith, below_power (acc img q), and_le_l (acc img q) vs)) (λ u lu. one u (has (acc img q) u) refl))
      where
        one : (u d : ℕ) → has (acc img q) u ≡ d → has (bit_and (acc img q) (bit_and vs crowd)) u ≡ has (bit_and (acc img q) vs) u
        one u zero f = omega (arith, has-and (acc img q) (bit_and vs crowd) u, has-and (acc img q) vs u)
        one u (suc zero) f =
            omega (arith, has-and (acc img q) (bit_and vs crowd) u, has-and (acc img q) vs u, has-and vs crowd u, has-lt vs u, (t.each q (omega arith) e).each u f)
        one u (suc (suc d)) f = absurd (omega (arith, has-lt (acc img q) u))

-- How many scan states are looked at, and that the others are right.
module _ (v : ℕ) {n nq : ℕ} (all : several v ≡ true → n ≡ nq) (none : several v ≡ false → n ≡ 0) where
  pub looked : n ≤ nq
  looked = go (several v) refl
    where
      go : (b : Bool) → several v ≡ b → n ≤ nq
      go true e = omega (arith, all e)
      go false e = omega (arith, none e)

  pub others : (img : List ℕ) (q : ℕ) → n ≤ q → q < nq → settled img q v ≡ true
  unfolding settled implies
  others img q l m = go (several v) refl
    where
      go : (b : Bool) → several v ≡ b → settled img q v ≡ true
      go true e = absurd (omega (arith, all e))
      go false e = simp (settled, implies, few_right (acc img q) v e)

-- The rest of a row that is right.
pub row_right : (right : ℕ → ℕ → Bool) (m e i k q : ℕ) → q + k ≡ m → ((j : ℕ) → q ≤ j → j < m → right i j ≡ true)
    → rest right m e i (in_row (right i) i (m - q) q) ≡ in_rows right m (e - (i + 1)) (i + 1)
row_right right m e i zero q z h = row_end right m e i q (omega arith)
row_right right m e i (suc k) q z h = row_on right m e i q (omega arith) (h q (omega arith) (omega arith)) ∙ row_right right m e i k (q + 1) (omega arith) (λ j l n. h j (omega arith) n)
