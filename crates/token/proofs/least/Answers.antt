use Rattle.token.proofs.Laws.{least_in}
use Rattle.token.proofs.least.Goals as goal

pub returns : goal.returns
returns c =
    (c.lowest.ensures, rw c.lowest.ensures (least_in _ _ c.ranges.set.fits c.requires.0 c.requires.1))
