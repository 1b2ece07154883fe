-- Laws of the rules: the loop that compares a set with those of earlier groups. Assumes nothing.
use mathlib.Core.Path.{◌≡◌}
use mathlib.Core.Bool.{true, false}
use mathlib.Core.List.{List}
use Prim.Native.Nat.{ℕ, suc, ◌+◌, ◌-◌, ◌<◌, ◌≤◌}
use native.Mathlib.Omega.{arith}
use borrow.Author.Tests.{eq-eqb, ne_eqb}
use Rattle.pack.specs.Image.{group_set}
use Rattle.parserules.specs.Rules.{differs}

-- The loop that compares a set with the groups before it.
module _ (img : List ℕ) (set n g : ℕ) where
  pub differs_end : n ≤ g → differs img set (n - g) g ≡ true
  unfolding differs
  differs_end h = let z : n - g ≡ 0 = omega arith in rw z

  module _ (h : g < n) {x : ℕ} (e : x ≡ group_set img g) where
    pub differs_not : x ≡ set → differs img set (n - g) g ≡ false
    unfolding differs
    differs_not t = let z : n - g ≡ suc (n - (g + 1)) = omega arith in rw z (simp (differs, ← e, eq-eqb _ _ t))

    pub differs_on : (x ≡ set → ⊥) → differs img set (n - g) g ≡ differs img set (n - (g + 1)) (g + 1)
    unfolding differs
    differs_on t = let z : n - g ≡ suc (n - (g + 1)) = omega arith in rw z (simp (differs, ← e, ne_eqb _ _ t))
