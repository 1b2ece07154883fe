-- Laws of one condition after the other, and of the check after shape. Assumes nothing.
use mathlib.Core.Path.{◌≡◌, refl, sym}
use mathlib.Core.List.{List, [], ◌∷◌}
use Prim.Native.Nat.{ℕ}
use Rattle.std.specs.Prelude.{Option, Result, Ok, Err, MatchResult}
use Rattle.numbers.specs.Codes.{wrong_shape}
use Rattle.numbers.specs.Verdicts.{Good, Wrong}
use Rattle.shape.specs.Shape.{shape}
use Rattle.conditions.specs.declared.Checked.{Checked}
use Rattle.conditions.specs.declared.Failing.{Failing}
use Rattle.conditions.specs.Check.{Condition, Holds, finding_of, number, find, report, first_failing, check_all, plain, check}
use Rattle.conditions.specs.Failing.{numbers_of}

-- The first condition listed fails, or it holds and the rest decides; the last one decides.
module _ (c : Condition) (img : List ℕ) (places : Option (ℕ × ℕ)) (e : finding_of places ≡ find c img) where
  pub fails_here : (others : List Condition) {r : Checked} → ((after : Checked) → r ≡ report (number c) (finding_of places) after) → r ≡ first_failing img (c ∷ others)
  unfolding first_failing
  fails_here others h = rw (← e) (h (first_failing img others))

  pub holds_here : (others : List Condition) {r : Checked} → finding_of places ≡ Holds → r ≡ first_failing img others → r ≡ first_failing img (c ∷ others)
  unfolding first_failing report
  holds_here others g h = rw (← e, g) h

  pub last_here : (r : Result (Unit {0}) Failing)
      → MatchResult r (λ (u : Unit {0}). finding_of places ≡ Holds) (λ (x : Failing). (after : Checked) → numbers_of (Err x) ≡ report (number c) (finding_of places) after)
      → numbers_of r ≡ first_failing img (c ∷ [])
  unfolding first_failing
  last_here (Ok u) h = holds_here [] h refl
  last_here (Err x) h = fails_here [] h

-- The check, after shape.
pub check_wrong : (img : List ℕ) (place : ℕ) → Wrong place ≡ shape img → record { code = wrong_shape; number = place; first = 0; second = 0 } ≡ check img
unfolding check check_all
check_wrong img place e = simp (check, check_all, sym e)

pub check_good : (img : List ℕ) {r : Checked} → Good ≡ shape img → r ≡ first_failing img plain → r ≡ check img
unfolding check check_all
check_good img e h = simp (check, check_all, sym e) h
