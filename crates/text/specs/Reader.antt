-- Manual, sections 1.2, 1.7 and 5.2: reading a pack text. It is refused by 2, 1, 4 and 3, in that order; the limits of the sizes and of len
-- belong to the form of their lines. What is read are the bytes that are left; what has been read are the words of the image so far.
use Rattle.std.specs.Prelude.{Bool, true, false, List, [], ◌∷◌, ◌++◌, ℕ, zero, suc, ◌+◌, ◌-◌, eqb, leb, ltb, length, drop}
use Rattle.pack.specs.Image.{most_symbols}
use Rattle.numbers.specs.Verdicts.{Good, Wrong}
use Rattle.numbers.specs.Codes.{not_the_form, text_too_long, wrong_shape, longest_text}
use Rattle.shape.specs.Shape.{shape, each, size_rule}
use Rattle.text.specs.declared.Form.{Form}
use Rattle.text.specs.declared.Form.TheVariants.{One, Two}
use Rattle.text.specs.declared.Kind.{Kind}
use Rattle.text.specs.declared.Kind.TheVariants.{Number, Set}
use Rattle.text.specs.declared.Row.{Row}
use Rattle.text.specs.declared.Row.TheVariants.{Numbers, Cells, Sets, Production, Group}
use Rattle.numbers.specs.Front.{Delivery, refuse, deliver}
use Rattle.text.specs.Fields.{read_field, words_of}
use Rattle.text.specs.Form.{Table, newline, comma, after, column_text, pack_line, sizes, tables_of}

-- A line, or a part of one: it is wrong, or these are the words so far and the bytes after it.
pub data Line : Type 0 where
  wrong : Line
  took : (words bytes : List ℕ) → Line

-- One part after the other.
unfoldable pub then_read : Line → (List ℕ → List ℕ → Line) → Line
then_read wrong next = wrong
then_read (took words bytes) next = next words bytes

-- These bytes stand next.
unfoldable pub expect : List ℕ → List ℕ → List ℕ → Line
expect [] words bytes = took words bytes
expect (c ∷ name) words [] = wrong
expect (c ∷ name) words (b ∷ bytes) = elim (eqb b c) [ true ↦ expect name words bytes | false ↦ wrong ]

-- One field and the byte after it.
unfoldable pub field_then : Kind → ℕ → List ℕ → List ℕ → Line
field_then kind next words bytes =
    let field = read_field kind bytes in
    elim field.used [
      | zero ↦ wrong
      | suc k ↦ expect (next ∷ []) (words ++ words_of kind field.value) (drop field.used bytes)
    ]

-- So many fields of one kind, split by commas, the last followed by `end`.
unfoldable pub read_fields : Kind → ℕ → ℕ → List ℕ → List ℕ → Line
read_fields kind zero end words bytes = took words bytes
read_fields kind (suc n) end words bytes = then_read (field_then kind (after n end) words bytes) (λ w rest. read_fields kind n end w rest)

-- Cells in form 2. A code is not 0.
unfoldable pub read_code : List ℕ → List ℕ → Line
read_code words bytes =
    let code = read_field Number bytes in
    elim code.value [ zero ↦ wrong | suc k ↦ took (words ++ (code.value ∷ [])) (drop code.used bytes) ]

-- The cell of this column, if it stands next.
unfoldable pub read_cell : Bool → ℕ → List ℕ → List ℕ → Line
read_cell first column words bytes = then_read (expect (column_text first column) words bytes) read_code

-- The n columns that are left of a row, from this one on: the cell of a column stands next, or is 0. So columns rise and lie inside the
-- row. Behind the last one the line ends.
unfoldable pub read_cells : Bool → ℕ → ℕ → List ℕ → List ℕ → Line
read_cells first zero column words bytes = expect (newline ∷ []) words bytes
read_cells first (suc n) column words bytes =
    elim (read_cell first column words bytes) [
      | wrong ↦ read_cells first n (column + 1) (words ++ (0 ∷ [])) bytes
      | took w rest ↦ read_cells false n (column + 1) w rest
    ]

-- So many words 0.
unfoldable pub zeros : ℕ → List ℕ
zeros zero = []
zeros (suc n) = 0 ∷ zeros n

-- What stands behind lhs: len and so many symbols. The words that no symbol uses are 0. The byte after len depends on it.
unfoldable pub read_symbols : List ℕ → List ℕ → Line
read_symbols words bytes =
    let size = read_field Number bytes in
    elim size.used [
      | zero ↦ wrong
      | suc k ↦ elim (leb size.value most_symbols) [
        | false ↦ wrong
        | true ↦
            then_read (expect (after size.value newline ∷ []) (words ++ (size.value ∷ [])) (drop size.used bytes))
            (λ w rest. then_read (read_fields Number size.value newline w rest) (λ u left. took (u ++ zeros (most_symbols - size.value)) left))
      ]
    ]

-- What stands behind the `=` of a line.
unfoldable pub read_row : Row → List ℕ → List ℕ → Line
read_row (Numbers n) words bytes = read_fields Number n newline words bytes
read_row (Cells n) words bytes = read_cells true n 0 words bytes
read_row (Sets n) words bytes = read_fields Set n newline words bytes
read_row Production words bytes = then_read (field_then Number comma words bytes) read_symbols
read_row Group words bytes = then_read (field_then Set comma words bytes) (field_then Number newline)

-- Lines, read one after the other: they are all right, or these are the bytes from the start of the first wrong or missing one on.
pub data Lines : Type 0 where
  wrong_from : (bytes : List ℕ) → Lines
  all : (words bytes : List ℕ) → Lines

unfoldable pub then_lines : Lines → (List ℕ → List ℕ → Lines) → Lines
then_lines (wrong_from bytes) next = wrong_from bytes
then_lines (all words bytes) next = next words bytes

-- A line by itself.
unfoldable pub as_line : List ℕ → Line → Lines
as_line start wrong = wrong_from start
as_line start (took words bytes) = all words bytes

-- The n lines of a table that are left.
unfoldable pub read_lines : List ℕ → Row → ℕ → List ℕ → List ℕ → Lines
read_lines name row zero words bytes = all words bytes
read_lines name row (suc n) words bytes =
    then_lines (as_line bytes (then_read (expect name words bytes) (read_row row))) (λ w rest. read_lines name row n w rest)

unfoldable pub read_tables : List Table → List ℕ → List ℕ → Lines
read_tables [] words bytes = all words bytes
read_tables (t ∷ tables) words bytes = then_lines (read_lines t.name t.row t.lines words bytes) (read_tables tables)

-- The sizes are within their limits.
unfoldable pub limited : List ℕ → List ℕ → Line
limited words bytes = elim (each (size_rule words) 8 1) [ Good ↦ took words bytes | Wrong place ↦ wrong ]

-- The first two lines.
unfoldable pub read_head : Form → List ℕ → Lines
read_head form bytes =
    then_lines (as_line bytes (expect (pack_line form) (1 ∷ []) bytes))
    (λ w rest. as_line rest (then_read (then_read (expect sizes.name w rest) (read_row sizes.row)) limited))

-- Nothing follows the last line.
unfoldable pub ended : List ℕ → List ℕ → Lines
ended words [] = all words []
ended words (b ∷ bytes) = wrong_from (b ∷ bytes)

-- The whole text, in one form.
unfoldable pub read_in : Form → List ℕ → Lines
read_in form bytes = then_lines (then_lines (read_head form bytes) (λ w rest. read_tables (tables_of form w) w rest)) ended

-- The first line tells the form. Where it is that of neither, form 1 finds it wrong.
unfoldable pub form_of : List ℕ → Form
form_of bytes = elim (expect (pack_line Two) [] bytes) [ wrong ↦ One | took w rest ↦ Two ]

unfoldable pub read_all : List ℕ → Lines
read_all bytes = read_in (form_of bytes) bytes

-- Code 1 gives the place where the bytes from the wrong line on begin; then the words must have good shape, and what is due comes next.
unfoldable pub judge : ℕ → (List ℕ → Delivery) → Lines → Delivery
judge size next (wrong_from bytes) = refuse not_the_form (size - length bytes)
judge size next (all words bytes) = elim (shape words) [ Wrong place ↦ refuse wrong_shape place | Good ↦ next words ]

-- There must be room for them.
unfoldable pub read : List ℕ → List ℕ → Delivery
read text buffer =
    elim (ltb longest_text (length text)) [
      | true ↦ refuse text_too_long 0
      | false ↦ judge (length text) (λ words. deliver words (length buffer)) (read_all text)
    ]
