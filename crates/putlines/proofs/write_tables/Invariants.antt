-- The loop's invariant: what takes the tables that are left has taken all of them.
use Rattle.std.proofs.Common.{◌≡◌, ◌≤◌, ◌+◌, length}
use Rattle.pack.specs.Image.{layout_at, largest_image}
use Rattle.text.specs.Form.{tables_of, table_words}
use Rattle.text.specs.Writer.{tables_text}
use Rattle.text.proofs.Tables.{tables_from}
use Rattle.putlines.proofs.write_tables.Given as goal

abbrev pub invariant-loop-i : goal.invariant-loop-i
invariant-loop-i g l = record {
  place : l.from + table_words (tables_from l.form l.img l.i) ≤ largest_image;
  room : g.S.Sink.room l.out l.to + length (tables_text (tables_of l.form l.img) l.img layout_at) ≡ g.S.Sink.room l.initial.out l.initial.to + length (tables_text (tables_from l.form l.img l.i) l.img l.from);
  taken : (t : _) (e : _) → g.S.Sink.takes l.out l.to (tables_text (tables_from l.form l.img l.i) l.img l.from) t e → g.S.Sink.takes l.initial.out l.initial.to (tables_text (tables_of l.form l.img) l.img layout_at) t e;
}
