-- The loop's invariant: the first i bytes of the name were put.
use Rattle.std.proofs.Common.{◌≡◌, ◌≤◌, ◌+◌, length, take}
use Rattle.putfields.proofs.write_name.Given as goal

abbrev pub invariant-loop-i : goal.invariant-loop-i
invariant-loop-i g l = record {
  within : l.i ≤ length l.name;
  room : g.S.Sink.room l.out l.to + l.i ≡ g.S.Sink.room l.initial.out l.initial.to;
  taken : g.S.Sink.takes l.initial.out l.initial.to (take l.i l.name) l.out l.to;
}
