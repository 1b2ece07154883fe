use Prim.Native.Nat.{◌-◌}
use Rattle.records.specs.Inner.{Turning}
use Rattle.parse.proofs.run.run.Given as goal

abbrev pub invariant-loop-parser : goal.invariant-loop-parser
invariant-loop-parser l = Turning l.img l.text l.initial.tree l.allowance l.known l.tree l.parser

abbrev pub decreases-loop-parser : goal.decreases-loop-parser
decreases-loop-parser l = l.parser.room - l.parser.records
