-- What the parts of a line promise each other. The program gives a value or words and the bytes behind them where the definitions hold the
-- words so far and the bytes that are left.
use Rattle.std.specs.Prelude.{◌≡◌, List, ◌∷◌, ◌++◌, ℕ, zero, suc, ◌+◌, ◌≤◌, length, drop, Option, Some, None}
use Rattle.text.specs.declared.Field.{Field}
use Rattle.text.specs.Reader.{Line}
use Rattle.text.specs.Reader.Line.{wrong, took}

-- The value of a field at the front of some bytes, and the bytes behind it.
unfoldable pub taken : Field → List ℕ → Option (ℕ × List ℕ)
taken field bytes = elim field.used [ zero ↦ None | suc k ↦ Some (field.value, drop field.used bytes) ]

-- One digit of this value stands at the front, this byte behind it, and then the rest.
pub record OneDigit (bytes : List ℕ) (next value : ℕ) (rest : List ℕ) : Type 0 where
  pub digit : value ≤ 9
  pub stands : bytes ≡ (48 + value) ∷ next ∷ rest

-- A part of a line is wrong at the front of these bytes, whatever the words before it are.
pub record IsWrong (part : List ℕ → List ℕ → Line) (bytes : List ℕ) : Type 0 where
  pub line : (before : List ℕ) → part before bytes ≡ wrong

-- A part of a line is right: it gives these words, behind those before it, and this rest.
pub record Reads (part : List ℕ → List ℕ → Line) (bytes words rest : List ℕ) : Type 0 where
  pub line : (before : List ℕ) → part before bytes ≡ took (before ++ words) rest
  pub within : length rest ≤ length bytes
