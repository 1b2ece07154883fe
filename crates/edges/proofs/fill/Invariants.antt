use Rattle.edges.specs.Tables.{Sources, Carried, Goers}
use Rattle.edges.proofs.fill.Given as goal

abbrev pub invariant-loop-s : goal.invariant-loop-s
invariant-loop-s l = record {
  sources : Sources l.img l.s l.from;
  carried : Carried l.img l.s l.on;
  goers : Goers l.img l.s l.goes;
}
