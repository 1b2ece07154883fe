-- What the parts of the reader promise each other: lines, whatever words stand before theirs.
use Rattle.std.specs.Prelude.{◌≡◌, List, ◌++◌, ℕ, ◌≤◌, length}
use Rattle.text.specs.Reader.{Lines}
use Rattle.text.specs.Reader.Lines.{wrong_from, all}

-- Lines at the front of these bytes are right: they give these words, behind those before them, and this rest.
pub record ReadsLines (part : List ℕ → List ℕ → Lines) (bytes words rest : List ℕ) : Type 0 where
  pub lines : (before : List ℕ) → part before bytes ≡ all (before ++ words) rest
  pub within : length rest ≤ length bytes

-- They are wrong, and these are the bytes from the start of the wrong one on.
pub record WrongFrom (part : List ℕ → List ℕ → Lines) (bytes from : List ℕ) : Type 0 where
  pub lines : (before : List ℕ) → part before bytes ≡ wrong_from from
  pub within : length from ≤ length bytes
