-- Manual, sections 1.2, 1.7 and 5.2: writing a pack text in one form or the other. It is refused by 4, 2 and 3, in that order.
use Rattle.std.specs.Prelude.{Bool, true, false, List, [], ◌∷◌, ◌++◌, ℕ, zero, suc, ◌+◌, ◌*◌, ltb, length, get_or}
use Rattle.numbers.specs.Verdicts.{Good, Wrong}
use Rattle.numbers.specs.Codes.{text_too_long, wrong_shape, longest_text}
use Rattle.pack.specs.Image.{layout_at, set_words}
use Rattle.shape.specs.Shape.{shape}
use Rattle.text.specs.declared.Form.{Form}
use Rattle.text.specs.declared.Kind.{Kind}
use Rattle.text.specs.declared.Kind.TheVariants.{Number, Set}
use Rattle.text.specs.declared.Row.{Row}
use Rattle.text.specs.declared.Row.TheVariants.{Numbers, Cells, Sets, Production, Group}
use Rattle.numbers.specs.Front.{Delivery, refuse, deliver}
use Rattle.text.specs.Fields.{field_text, width_of}
use Rattle.text.specs.Form.{Table, newline, comma, after, column_text, pack_line, sizes, tables_of, row_width}

-- So many fields of one kind from a place of the image on, split by commas, the last followed by `end`.
unfoldable pub fields_text : Kind → ℕ → ℕ → List ℕ → ℕ → List ℕ
fields_text kind zero end img at = []
fields_text kind (suc n) end img at = field_text kind img at ++ (after n end ∷ fields_text kind n end img (at + width_of kind))

-- Cells in form 2: the n columns that are left of a row, from this one on, whose words stand from a place of the image on.
unfoldable pub cells_text : Bool → ℕ → ℕ → List ℕ → ℕ → List ℕ
cells_text first zero column img at = newline ∷ []
cells_text first (suc n) column img at =
    elim (get_or img at 0) [
      | zero ↦ cells_text first n (column + 1) img (at + 1)
      | suc k ↦ column_text first column ++ (field_text Number img at ++ cells_text false n (column + 1) img (at + 1))
    ]

-- What stands behind the `=` of a line.
unfoldable pub row_text : Row → List ℕ → ℕ → List ℕ
row_text (Numbers n) img at = fields_text Number n newline img at
row_text (Cells n) img at = cells_text true n 0 img at
row_text (Sets n) img at = fields_text Set n newline img at
row_text Production img at = fields_text Number (2 + get_or img (at + 1) 0) newline img at
row_text Group img at = fields_text Set 1 comma img at ++ fields_text Number 1 newline img (at + set_words)

-- n lines of a table, and the tables, from a place of the image on.
unfoldable pub lines_text : List ℕ → Row → ℕ → List ℕ → ℕ → List ℕ
lines_text name row zero img at = []
lines_text name row (suc n) img at = (name ++ row_text row img at) ++ lines_text name row n img (at + row_width row)

unfoldable pub tables_text : List Table → List ℕ → ℕ → List ℕ
tables_text [] img at = []
tables_text (t ∷ tables) img at =
    lines_text t.name t.row t.lines img at ++ tables_text tables img (at + t.lines * row_width t.row)

-- The text of an image.
unfoldable pub text_of : Form → List ℕ → List ℕ
text_of form img = pack_line form ++ (lines_text sizes.name sizes.row sizes.lines img 1 ++ tables_text (tables_of form img) img layout_at)

-- An image of good shape: its text is not too long, and there is room.
unfoldable pub write_good : Form → List ℕ → ℕ → Delivery
write_good form img room =
    elim (ltb longest_text (length (text_of form img))) [ true ↦ refuse text_too_long 0 | false ↦ deliver (text_of form img) room ]

unfoldable pub write : Form → List ℕ → List ℕ → Delivery
write form img buffer = elim (shape img) [ Wrong place ↦ refuse wrong_shape place | Good ↦ write_good form img (length buffer) ]
