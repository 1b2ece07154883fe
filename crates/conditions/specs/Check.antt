-- Manual, section 4.7: the answer of the check: after shape, the first condition that fails, in order, with its least places.
use Rattle.std.specs.Prelude.{◌≡◌, Bool, true, false, List, [], ◌∷◌, ℕ, zero, suc, ◌+◌, ◌<◌, Option, Some, None}
use Rattle.numbers.specs.Codes.{done, wrong_shape, check_fails}
use Rattle.numbers.specs.Verdicts.{Good, Wrong}
use Rattle.pack.specs.Image.{productions, states, scan_states, act}
use Rattle.shape.specs.Shape.{shape}
use Rattle.conditions.specs.declared.Checked.{Checked}
use Rattle.conditions.specs.Conditions.{K1, K2, K3, K4, K5, K6, Reduces, k1, k2, k3, k4, k5, k6}

-- The conditions. Each has a number; so many first places and so many second ones; a meaning at two places, and a test of it there.
-- A condition with one place has one second place, which is 0: that is what the answer gives for a place that is absent.
pub data Condition : Type 0 where
  c1 : Condition
  c2 : Condition
  c3 : Condition
  c4 : Condition
  c5 : Condition
  c6 : Condition

unfoldable pub number : Condition → ℕ
number c1 = 1
number c2 = 2
number c3 = 3
number c4 = 4
number c5 = 5
number c6 = 6

unfoldable pub firsts : Condition → List ℕ → ℕ
firsts c1 img = scan_states img
firsts c2 img = scan_states img
firsts c3 img = states img
firsts c4 img = states img
firsts c5 img = states img
firsts c6 img = states img

unfoldable pub seconds : Condition → List ℕ → ℕ
seconds c1 img = 1
seconds c2 img = 1
seconds c3 img = scan_states img
seconds c4 img = 1
seconds c5 img = productions img
seconds c6 img = 1

unfoldable pub Meets : Condition → List ℕ → ℕ → ℕ → Type 0
Meets c1 img q j = K1 img q
Meets c2 img q j = K2 img q
Meets c3 img s q = K3 img s q
Meets c4 img v j = K4 img v
Meets c5 img s p = Reduces img s p → K5 img s p
Meets c6 img s j = act img s 0 ≡ 1 → K6 img s

unfoldable pub test : Condition → List ℕ → ℕ → ℕ → Bool
test c1 img q j = k1 img q
test c2 img q j = k2 img q
test c3 img s q = k3 img s q
test c4 img v j = k4 img v
test c5 img s p = k5 img s p
test c6 img s j = k6 img s

-- A condition holds, or it fails at these places.
pub data Finding : Type 0 where
  Holds : Finding
  Fails : ℕ → ℕ → Finding

-- The least places at which a test fails: of n second places from j on, beside the first place i; of n first places from i on, each
-- with m second ones.
unfoldable pub in_row : (ℕ → Bool) → ℕ → ℕ → ℕ → Finding
in_row right i zero j = Holds
in_row right i (suc n) j = elim (right j) [ true ↦ in_row right i n (j + 1) | false ↦ Fails i j ]

unfoldable pub in_rows : (ℕ → ℕ → Bool) → ℕ → ℕ → ℕ → Finding
in_rows right m zero i = Holds
in_rows right m (suc n) i = elim (in_row (right i) i m 0) [ Holds ↦ in_rows right m n (i + 1) | Fails first second ↦ Fails first second ]

-- The places at which a condition fails, where it does, as a finding.
unfoldable pub finding_of : Option (ℕ × ℕ) → Finding
finding_of None = Holds
finding_of (Some places) = Fails places.0 places.1

-- A condition's least places.
unfoldable pub find : Condition → List ℕ → Finding
find c img = in_rows (test c img) (seconds c img) (firsts c img) 0

-- Code 5 gives the condition's number, then its places; a pack that passes gets zeros.
abbrev pub failed : ℕ → ℕ → ℕ → Checked
failed condition first second = record { code = check_fails; number = condition; first = first; second = second }

abbrev pub passed : Checked
passed = record { code = done; number = 0; first = 0; second = 0 }

-- The answer where a condition fails, and where it holds what comes after it.
unfoldable pub report : ℕ → Finding → Checked → Checked
report condition Holds after = after
report condition (Fails first second) after = failed condition first second

-- The answer of the conditions listed: the first that fails, in order.
unfoldable pub first_failing : List ℕ → List Condition → Checked
first_failing img [] = passed
first_failing img (c ∷ rest) = report (number c) (find c img) (first_failing img rest)

-- Shape comes first, code 4, and then the conditions listed. The plain check has K1 to K6.
unfoldable pub check_all : List Condition → List ℕ → Checked
check_all conditions img =
    elim (shape img) [
      | Wrong place ↦ record { code = wrong_shape; number = place; first = 0; second = 0 }
      | Good ↦ first_failing img conditions
    ]

abbrev pub plain : List Condition
plain = c1 ∷ c2 ∷ c3 ∷ c4 ∷ c5 ∷ c6 ∷ []

unfoldable pub check : List ℕ → Checked
check img = check_all plain img

-- A condition holds everywhere; it fails at these places and at none before them, row by row.
pub record Everywhere (c : Condition) (img : List ℕ) : Type 0 where
  pub each : (i j : ℕ) → i < firsts c img → j < seconds c img → Meets c img i j

pub record Least (c : Condition) (img : List ℕ) (first second : ℕ) : Type 0 where
  pub first_is : first < firsts c img
  pub second_is : second < seconds c img
  pub fails : Meets c img first second → ⊥
  pub rows_before : (i j : ℕ) → i < first → j < seconds c img → Meets c img i j
  pub before : (j : ℕ) → j < second → Meets c img first j

-- What an answer of code 5 says of the conditions listed: those before it hold everywhere, and this one fails.
pub data FirstFails (img : List ℕ) : List Condition → ℕ → ℕ → ℕ → Type 0 where
  this : {c : Condition} {rest : List Condition} {first second : ℕ} → Least c img first second → FirstFails img (c ∷ rest) (number c) first second
  later : {c : Condition} {rest : List Condition} {n first second : ℕ} → Everywhere c img → FirstFails img rest n first second → FirstFails img (c ∷ rest) n first second

-- All of the conditions listed hold everywhere.
pub data AllHold (img : List ℕ) : List Condition → Type 0 where
  none : AllHold img []
  more : {c : Condition} {rest : List Condition} → Everywhere c img → AllHold img rest → AllHold img (c ∷ rest)

-- A finding is that the condition fails.
unfoldable pub is_fails : Finding → Bool
is_fails Holds = false
is_fails (Fails first second) = true
