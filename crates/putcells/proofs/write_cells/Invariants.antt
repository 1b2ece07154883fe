-- The loop's invariant: what takes the columns that are left has taken all of them.
use Rattle.std.proofs.Common.{◌≡◌, ◌+◌, true, length}
use Rattle.text.specs.Writer.{cells_text}
use Rattle.putcells.proofs.CellLaws.{cells_left}
use Rattle.putcells.proofs.write_cells.Given as goal

abbrev pub invariant-loop-column : goal.invariant-loop-column
invariant-loop-column g l = record {
  room : g.S.Sink.room l.out l.to + length (cells_text true l.n 0 l.img l.i) ≡ g.S.Sink.room l.initial.out l.initial.to + length (cells_left l.first l.n l.column l.img l.i);
  taken : (t : _) (e : _) → g.S.Sink.takes l.out l.to (cells_left l.first l.n l.column l.img l.i) t e → g.S.Sink.takes l.initial.out l.initial.to (cells_text true l.n 0 l.img l.i) t e;
}
