use Rattle.measure.proofs.Heights.{Counted}
use Rattle.measure.proofs.height.Given as goal

abbrev pub invariant-loop-i : goal.invariant-loop-i
invariant-loop-i l = Counted l.tree l.i l.h
