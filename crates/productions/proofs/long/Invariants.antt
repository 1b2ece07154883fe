use Rattle.std.proofs.Common.{◌≤◌}
use Rattle.productions.proofs.long.Given as goal

abbrev pub invariant-loop-p : goal.invariant-loop-p
invariant-loop-p l = l.many ≤ l.p
