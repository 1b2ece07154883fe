use Rattle.std.proofs.Common.{◌<◌}
use Rattle.cases.proofs.sum_of_bytes.Given as goal

abbrev pub invariant-loop-b : goal.invariant-loop-b
invariant-loop-b l = l.h < 4294967296
