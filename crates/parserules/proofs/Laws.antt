-- A law of the rules: a code in a layout column. Assumes nothing.
use mathlib.Core.Path.{◌≡◌, refl}
use mathlib.Core.Bool.{Bool, true, false, ◌&&◌}
use mathlib.Core.List.{List}
use Prim.Native.Nat.{ℕ, ◌-◌, ◌%◌}
use lib.Dec.{eqb}
use borrow.Author.Tests.{ne_eqb}
use Rattle.sets.specs.Sets.{lacks}
use Rattle.pack.specs.Image.{layout, action_of}
use Rattle.parserules.specs.Rules.{act_right}

-- No action but error stands in a layout column.
pub layout_column : (img : List ℕ) (t code : ℕ) {l : ℕ} → l ≡ layout img → (code ≡ 0 → ⊥) → (code ≡ 1 → ⊥) → lacks l t ≡ false → act_right img t (action_of code) ≡ false
unfolding act_right action_of
layout_column img t code a n m e = go (eqb ((code - 2) % 2) 0) refl
  where
    go : (b : Bool) → eqb ((code - 2) % 2) 0 ≡ b → act_right img t (action_of code) ≡ false
    go true f = simp (action_of, ne_eqb _ _ n, ne_eqb _ _ m, f, act_right, ← a, e, ◌&&◌)
    go false f = simp (action_of, ne_eqb _ _ n, ne_eqb _ _ m, f, act_right, ← a, e, ◌&&◌)
