use Rattle.std.proofs.Common.{◌<◌}
use Rattle.cases.proofs.sum_of_words.Given as goal

abbrev pub invariant-loop-x : goal.invariant-loop-x
invariant-loop-x l = l.h < 4294967296
