use Rattle.std.proofs.Common.{rules}
use Rattle.conditions.specs.Check.{find, firsts, seconds, test}
use Rattle.edgecheck.proofs.find_k4.Goals as goal

pub first_wrong-requires : goal.first_wrong-requires
first_wrong-requires c = search rules

pub returns : goal.returns
unfolding find firsts seconds test
returns c = rw (← c.states.ensures) c.first_wrong.ensures
