use Rattle.escape.proofs.Sizes.{Sized}
use Rattle.escape.proofs.bytes_size.Given as goal

abbrev pub invariant-loop-b : goal.invariant-loop-b
invariant-loop-b l = Sized l.bytes l.b-index l.size
