-- What the reading of a cell promises to that of a row.
use Rattle.std.specs.Prelude.{◌≡◌, Bool, false, List, [], ◌∷◌, ◌++◌, ℕ, ◌+◌, ◌-◌, ◌<◌, ◌≤◌, length}
use Rattle.text.specs.Reader.{read_cells, zeros}
use Rattle.onecell.specs.declared.Cell.{Cell}

-- The cell that stands next among the columns from `least` on of a row of n, and the rest behind it: the columns before it are 0.
pub record NextCell (first : Bool) (bytes : List ℕ) (least n : ℕ) (c : Cell) (rest : List ℕ) : Type 0 where
  pub rises : least ≤ c.column
  pub inside : c.column < n
  pub within : length rest ≤ length bytes
  pub some : (w : List ℕ)
      → read_cells first (n - least) least w bytes ≡ read_cells false (n - (c.column + 1)) (c.column + 1) ((w ++ zeros (c.column - least)) ++ (c.code ∷ [])) rest
