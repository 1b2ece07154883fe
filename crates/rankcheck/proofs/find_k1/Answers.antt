use Rattle.conditions.specs.Check.{find, firsts, seconds, test}
use Rattle.rankcheck.proofs.find_k1.Goals as goal

pub returns : goal.returns
unfolding find firsts seconds test
returns c = rw (← c.scan_states.ensures) c.first_wrong.ensures
