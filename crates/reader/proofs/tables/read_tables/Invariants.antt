-- `reader::tables::read_tables` meets its contract. The loop's invariant: the tables that are left, read from where it stands, give the same
-- as all of them.
use mathlib.Core.Path.{◌≡◌}
use mathlib.Core.List.{List, ◌++◌}
use Prim.Native.Nat.{ℕ, ◌+◌, ◌≤◌}
use lib.ListN.{length, take}
use Rattle.text.specs.Form.{tables_of, table_words}
use Rattle.text.specs.Reader.{read_tables}
use Rattle.text.proofs.Tables.{tables_from}
use Rattle.reader.proofs.tables.read_tables.Given as goal

abbrev pub invariant-loop-i : goal.invariant-loop-i
invariant-loop-i l = record {
  fits : l.words + table_words (tables_from l.form l.head l.i) ≡ length l.tables;
  within : length l.left ≤ length l.bytes;
  same : (w : List ℕ) → read_tables (tables_of l.form l.head) w l.bytes ≡ read_tables (tables_from l.form l.head l.i) (w ++ take l.words l.tables) l.left;
}
