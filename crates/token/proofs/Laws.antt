-- Laws of the terminal that a set stands for: its least one, and a step of the search for its group. Assumes nothing.
use mathlib.Core.Path.{◌≡◌, refl}
use mathlib.Core.List.{List}
use Prim.Native.Nat.{ℕ, suc, ◌+◌, ◌-◌, ◌<◌, ◌≤◌}
use native.Mathlib.Omega.{arith}
use borrow.Author.Tests.{eq-eqb, ne_eqb}
use Rattle.sets.specs.Sets.{lowest}
use Rattle.sets.proofs.Laws.{lowest_lt, lowest_in}
use Rattle.numbers.specs.Verdicts.{Good}
use Rattle.pack.specs.Image.{terminals, groups, group_set, chosen}
use Rattle.shape.specs.Shape.{shape}
use Rattle.scan.specs.Token.{chosen_in}
use Rattle.shape.proofs.GoodParser.{good_group}
use Rattle.token.specs.Terms.{Terms}

-- The least terminal of a set.
pub least_in : (img : List ℕ) (set : ℕ) → set < 18446744073709551616 → (set ≡ 0 → ⊥) → Terms img set → lowest set < terminals img
least_in img set l nz t = t.each (lowest set) (lowest_in 64 set (lowest_lt 64 set l nz))

-- No group is left; this is the group; it is not.
pub chosen_none : (img : List ℕ) (set g : ℕ) → groups img ≤ g → chosen_in img set (groups img - g) g ≡ 0
unfolding chosen_in
chosen_none img set g l = let z : groups img - g ≡ 0 = omega arith in rw z refl

one_left : (img : List ℕ) (g : ℕ) → g < groups img → groups img - g ≡ suc (groups img - (g + 1))
one_left img g l = omega arith

pub chosen_hit : (img : List ℕ) (set g : ℕ) → g < groups img → group_set img g ≡ set → chosen_in img set (groups img - g) g ≡ suc (chosen img g)
unfolding chosen_in
chosen_hit img set g l e = rw (one_left img g l) (simp (chosen_in, eq-eqb _ _ e))

pub chosen_on : (img : List ℕ) (set g : ℕ) → g < groups img → (group_set img g ≡ set → ⊥)
    → chosen_in img set (groups img - g) g ≡ chosen_in img set (groups img - (g + 1)) (g + 1)
unfolding chosen_in
chosen_on img set g l n = rw (one_left img g l) (simp (chosen_in, ne_eqb _ _ n))

-- The chosen terminal of a group is one of its own.
pub chosen_small : (img : List ℕ) (set g : ℕ) → shape img ≡ Good → Terms img set → g < groups img → group_set img g ≡ set → chosen img g < terminals img
chosen_small img set g good terms l e = terms.each (chosen img g) (rw e at (good_group img good g l))
