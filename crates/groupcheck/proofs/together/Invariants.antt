use Rattle.groupcheck.specs.Together.{Together}
use Rattle.groupcheck.proofs.together.Given as goal

abbrev pub invariant-loop-q : goal.invariant-loop-q
invariant-loop-q l = Together l.img l.q l.set
