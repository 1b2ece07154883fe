-- Manual, sections 1.2 and 1.7: the text forms. Lines, each ended by one LF, hold fields that are split by commas. The image has the same numbers
-- in the same order, so that one list of tables serves the reader and the writer, and both forms.
use Rattle.std.specs.Prelude.{Bool, true, false, List, [], ◌∷◌, ◌++◌, ℕ, zero, suc, ◌+◌, ◌*◌, get_or}
use Rattle.pack.specs.Image.{terminals, nonterminals, productions, states, scan_states, classes, ranges, groups, group_words, production_words, set_words}
use Rattle.text.specs.Bytes.{bytes}
use Rattle.text.specs.Decimal.{decimal}
use Rattle.text.specs.declared.Form.{Form}
use Rattle.text.specs.declared.Form.TheVariants.{One, Two}
use Rattle.text.specs.declared.Row.{Row}
use Rattle.text.specs.declared.Row.TheVariants.{Numbers, Cells, Sets, Production, Group}

abbrev pub newline : ℕ
newline = 10

abbrev pub comma : ℕ
comma = 44

abbrev pub colon : ℕ
colon = 58

-- The byte after a field: a comma, or after the last one what ends the row.
unfoldable pub after : ℕ → ℕ → ℕ
after zero end = end
after (suc more) end = comma

-- What stands before the code of a cell in form 2: a comma if it is not the first on its line, its column, and a colon.
unfoldable pub before : Bool → List ℕ
before true = []
before false = comma ∷ []

unfoldable pub column_text : Bool → ℕ → List ℕ
column_text first column = before first ++ (decimal column ++ (colon ∷ []))

-- The form says how the cells of a row stand in a line: all of them, or those that are not 0.
unfoldable pub cells_in : Form → ℕ → Row
cells_in One n = Numbers n
cells_in Two n = Cells n

-- A table: the name that its lines begin with, what stands on each, and how many there are.
pub record Table : Type 0 where
  pub name : List ℕ
  pub row : Row
  pub lines : ℕ

-- The first two lines: `pack=1` or `pack=2`, and the eight sizes.
unfoldable pub pack_line : Form → List ℕ
pack_line One = bytes "pack=1\n"
pack_line Two = bytes "pack=2\n"

unfoldable pub sizes : Table
sizes = record { name = bytes "size="; row = Numbers 8; lines = 1 }

-- The tables in their order. A production is lhs, len and so many symbols; a range is lo, hi and its class; a scan state has the sets
-- acc, rej and poss; a group is its set and the chosen terminal. The rows of act, goto and move are cells: a code for each column.
unfoldable pub tables_of : Form → List ℕ → List Table
tables_of form img =
    record { name = bytes "layout="; row = Sets 1; lines = 1 } ∷
    record { name = bytes "dom="; row = Sets 1; lines = terminals img } ∷
    record { name = bytes "prod="; row = Production; lines = productions img } ∷
    record { name = bytes "act="; row = cells_in form (terminals img); lines = states img } ∷
    record { name = bytes "goto="; row = cells_in form (nonterminals img); lines = states img } ∷
    record { name = bytes "class="; row = Numbers 3; lines = ranges img } ∷
    record { name = bytes "move="; row = cells_in form (classes img); lines = scan_states img } ∷
    record { name = bytes "scan="; row = Sets 3; lines = scan_states img } ∷
    record { name = bytes "group="; row = Group; lines = groups img } ∷ []

-- The table at a place of the list, for places below 9.
abbrev pub table_at : Form → List ℕ → ℕ → Table
table_at form img i = get_or (tables_of form img) i sizes

-- The words of a row in the image, and of tables.
unfoldable pub row_width : Row → ℕ
row_width (Numbers n) = n
row_width (Cells n) = n
row_width (Sets n) = n * set_words
row_width Production = production_words
row_width Group = group_words

unfoldable pub table_words : List Table → ℕ
table_words [] = 0
table_words (t ∷ tables) = t.lines * row_width t.row + table_words tables
