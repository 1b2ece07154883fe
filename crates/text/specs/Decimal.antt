-- Manual, section 1.2: numbers in decimal, up to a limit, without leading zeros. What is read at the front of the bytes that are left,
-- and what is written.
use Rattle.std.specs.Prelude.{Bool, true, false, ◌&&◌, List, [], ◌∷◌, ◌++◌, ℕ, zero, suc, ◌+◌, ◌*◌, ◌-◌, ◌/◌, ◌%◌, eqb, leb, ltb, get_or}
use Rattle.text.specs.declared.Field.{Field}

-- No field.
abbrev pub none : Field
none = record { value = 0; used = 0 }

unfoldable pub is_digit : ℕ → Bool
is_digit b = leb 48 b && leb b 57

-- The digits at the front as a number, and how many they are. It reads no further once the number is above the limit.
unfoldable pub digits_from : ℕ → List ℕ → ℕ → ℕ → Field
digits_from limit [] value used = record { value = value; used = used }
digits_from limit (b ∷ bytes) value used =
    elim (is_digit b) [
      | false ↦ record { value = value; used = used }
      | true ↦ elim (leb value limit) [
        | false ↦ record { value = value; used = used }
        | true ↦ digits_from limit bytes (value * 10 + (b - 48)) (used + 1)
      ]
    ]

-- A number: at least one digit, the limit at the most, and no 0 in front of another digit.
unfoldable pub number_in : ℕ → ℕ → Field → Field
number_in limit front digits =
    elim (leb digits.value limit) [
      | false ↦ none
      | true ↦ elim (eqb front 48 && leb 2 digits.used) [ true ↦ none | false ↦ digits ]
    ]

unfoldable pub read_number : ℕ → List ℕ → Field
read_number limit bytes = number_in limit (get_or bytes 0 0) (digits_from limit bytes 0 0)

-- The digits of a number, highest first. Each step takes one digit off the end, so that n steps are enough for n.
unfoldable pub decimal_in : ℕ → ℕ → List ℕ
decimal_in zero n = (48 + n) ∷ []
decimal_in (suc steps) n =
    elim (ltb n 10) [
      | true ↦ (48 + n) ∷ []
      | false ↦ decimal_in steps (n / 10) ++ ((48 + n % 10) ∷ [])
    ]

unfoldable pub decimal : ℕ → List ℕ
decimal n = decimal_in n n
