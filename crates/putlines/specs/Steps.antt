-- What the parts of the writer say of tables.
use Rattle.std.specs.Prelude.{List, ℕ}
use Rattle.text.specs.declared.Form.{Form}
use Rattle.text.specs.Form.{table_at}
use Rattle.text.specs.Writer.{lines_text}

-- The lines of table i, whose words stand from a place of the image on.
abbrev pub table_text : Form → List ℕ → ℕ → ℕ → List ℕ
table_text form img i from = lines_text (table_at form img i).name (table_at form img i).row (table_at form img i).lines img from
