-- What four hex digits promise to a set.
use Rattle.std.specs.Prelude.{ℕ, zero, suc, ◌+◌, ◌*◌, Option, Some, None}
use Rattle.text.specs.Fields.{hex_digit}

-- The value of four hex digits, where all of them are some.
unfoldable pub hex_four : ℕ → ℕ → ℕ → ℕ → Option ℕ
hex_four a b c d =
    elim (hex_digit a) [
      | zero ↦ None
      | suc i ↦ elim (hex_digit b) [
        | zero ↦ None
        | suc j ↦ elim (hex_digit c) [
          | zero ↦ None
          | suc k ↦ elim (hex_digit d) [ zero ↦ None | suc l ↦ Some (((i * 16 + j) * 16 + k) * 16 + l) ]
        ]
      ]
    ]
