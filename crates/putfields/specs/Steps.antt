-- What the parts of the writer promise each other.
use Rattle.std.specs.Prelude.{◌≡◌, List, [], ◌∷◌, ℕ, zero, suc, ◌+◌, ◌%◌, length}
use Rattle.std.proofs.lemmas.List.Edits.{sets}

-- These bytes were written from place `at` on, and r is the place after them.
pub record Wrote (bytes out : List ℕ) (at : ℕ) (out' : List ℕ) (r : ℕ) : Type 0 where
  pub end : r ≡ at + length bytes
  pub holds : out' ≡ sets out at bytes

-- The last digit of what is left of a number after digits were taken off its end; none of 0.
unfoldable pub lead : ℕ → List ℕ
lead zero = []
lead (suc q) = (48 + suc q % 10) ∷ []
