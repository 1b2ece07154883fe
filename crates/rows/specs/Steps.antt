-- What the fields of a row promise each other.
use Rattle.std.specs.Prelude.{◌≡◌, List, ◌++◌, ℕ, ◌≤◌, length}
use Rattle.text.specs.Reader.{Line}
use Rattle.text.specs.Reader.Line.{took}

-- A part of a line is right: the words of the row so far become these, and this rest is left.
pub record Puts (part : List ℕ → List ℕ → Line) (bytes so_far words rest : List ℕ) : Type 0 where
  pub line : (before : List ℕ) → part (before ++ so_far) bytes ≡ took (before ++ words) rest
  pub within : length rest ≤ length bytes
