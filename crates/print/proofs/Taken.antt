-- What a node takes of the trees that stand. Assumes nothing.
use mathlib.Core.Path.{◌≡◌, refl}
use mathlib.Core.Bool.{true, false}
use mathlib.Core.List.{List, [], ◌∷◌}
use Prim.Native.Nat.{ℕ, zero, suc, ◌-◌, ◌<◌, ◌≤◌}
use native.Mathlib.Numerals.{sub-one}
use native.Mathlib.Omega.{arith}
use lib.ListN.{length, get_or, drop, length-append}
use Rattle.print.specs.Print.{Tree, leaf, Trees, more, depths, show, show_each, take_off}
use Rattle.print.proofs.Records.{false-true}

-- There are enough of them, or not.
pub take_enough : (k : ℕ) (trees : List Tree) (children : Trees) → k ≤ length trees → (take_off k trees children).enough ≡ true
unfolding take_off
take_enough zero trees children h = refl
take_enough (suc k) [] children h = absurd (omega arith)
take_enough (suc k) (t ∷ trees) children h = take_enough k trees (more t children) (omega arith)

pub take_short : (k : ℕ) (trees : List Tree) (children : Trees) → length trees < k → (take_off k trees children).enough ≡ false
unfolding take_off
take_short zero trees children h = absurd (omega arith)
take_short (suc k) [] children h = refl
take_short (suc k) (t ∷ trees) children h = take_short k trees (more t children) (omega arith)

pub take_rest : (k : ℕ) (trees : List Tree) (children : Trees) → k ≤ length trees → length (take_off k trees children).rest ≡ length trees - k
unfolding take_off
take_rest zero trees children h = omega arith
take_rest (suc k) [] children h = absurd (omega arith)
take_rest (suc k) (t ∷ trees) children h = let e = take_rest k trees (more t children) (omega arith) in omega (arith, e)

-- The next child is the last tree that stands.
pub take_some : (k : ℕ) (trees : List Tree) (children : Trees) → (take_off k trees children).enough ≡ true → (k ≡ 0 → ⊥) → 0 < length trees
unfolding take_off
take_some zero trees children e n = absurd (n refl)
take_some (suc k) [] children e n = absurd (false-true e)
take_some (suc k) (t ∷ trees) children e n = omega arith

pub take_next : (k : ℕ) (trees : List Tree) (children : Trees) → (take_off k trees children).enough ≡ true → (k ≡ 0 → ⊥)
    → take_off k trees children ≡ take_off (k - 1) (drop 1 trees) (more (get_or trees 0 (leaf 0 [])) children)
unfolding take_off
take_next zero trees children e n = absurd (n refl)
take_next (suc k) [] children e n = absurd (false-true e)
take_next (suc k) (t ∷ trees) children e n = rw (sub-one (suc k))

-- The children that were there stay the last ones: what they print and how deep they are is part of it.
pub take_longer : (k : ℕ) (trees : List Tree) (children : Trees) → length (show_each children) ≤ length (show_each (take_off k trees children).children)
unfolding take_off show_each
take_longer zero trees children = omega arith
take_longer (suc k) [] children = omega arith
take_longer (suc k) (t ∷ trees) children = omega (arith, take_longer k trees (more t children), length-append (show t) (show_each children))

pub take_deeper : (k : ℕ) (trees : List Tree) (children : Trees) → depths children ≤ depths (take_off k trees children).children
unfolding take_off depths
take_deeper zero trees children = omega arith
take_deeper (suc k) [] children = omega arith
take_deeper (suc k) (t ∷ trees) children = omega (arith, take_deeper k trees (more t children))
