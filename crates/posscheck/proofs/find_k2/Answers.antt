use Rattle.conditions.specs.Check.{find, firsts, seconds, test}
use Rattle.posscheck.proofs.find_k2.Goals as goal

pub returns : goal.returns
unfolding find firsts seconds test
returns c = rw (← c.scan_states.ensures) c.first_wrong.ensures
