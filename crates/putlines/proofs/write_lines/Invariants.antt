-- The loop's invariant: what takes the lines that are left has taken all of them.
use Rattle.std.proofs.Common.{◌≡◌, ◌≤◌, ◌+◌, ◌*◌, length}
use Rattle.text.specs.Form.{row_width}
use Rattle.text.specs.Writer.{lines_text}
use Rattle.putlines.proofs.write_lines.Given as goal

abbrev pub invariant-loop-left : goal.invariant-loop-left
invariant-loop-left g l = record {
  place : l.from + l._left * row_width l.row ≤ l.i + l.n * row_width l.row;
  room : g.S.Sink.room l.out l.to + length (lines_text l.name l.row l.n l.img l.i) ≡ g.S.Sink.room l.initial.out l.initial.to + length (lines_text l.name l.row l._left l.img l.from);
  taken : (t : _) (e : _) → g.S.Sink.takes l.out l.to (lines_text l.name l.row l._left l.img l.from) t e → g.S.Sink.takes l.initial.out l.initial.to (lines_text l.name l.row l.n l.img l.i) t e;
}
