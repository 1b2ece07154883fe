-- The loop's invariant: what takes the fields that are left has taken all of them.
use Rattle.std.proofs.Common.{◌≡◌, ◌≤◌, ◌+◌, ◌*◌, length}
use Rattle.text.specs.Fields.{width_of}
use Rattle.text.specs.Writer.{fields_text}
use Rattle.putfields.proofs.write_fields.Given as goal

abbrev pub invariant-loop-left : goal.invariant-loop-left
invariant-loop-left g l = record {
  place : l.from + l.left * width_of l.kind ≤ l.i + l.n * width_of l.kind;
  room : g.S.Sink.room l.out l.to + length (fields_text l.kind l.n l.end l.img l.i) ≡ g.S.Sink.room l.initial.out l.initial.to + length (fields_text l.kind l.left l.end l.img l.from);
  taken : (t : _) (e : _) → g.S.Sink.takes l.out l.to (fields_text l.kind l.left l.end l.img l.from) t e → g.S.Sink.takes l.initial.out l.initial.to (fields_text l.kind l.n l.end l.img l.i) t e;
}
