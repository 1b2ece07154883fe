-- The columns of a row in form 2, one by one.
use Rattle.std.specs.Prelude.{Bool, false, List, [], ◌++◌, ℕ, zero, suc}
use Rattle.text.specs.Decimal.{decimal}
use Rattle.text.specs.Form.{column_text}

-- One column of a row in form 2: nothing of a cell that is 0.
unfoldable pub cell_text : Bool → ℕ → ℕ → List ℕ
cell_text first column zero = []
cell_text first column (suc code) = column_text first column ++ decimal (suc code)

-- Whether the next cell is the first on its line.
unfoldable pub first_after : Bool → ℕ → Bool
first_after first zero = first
first_after first (suc code) = false
