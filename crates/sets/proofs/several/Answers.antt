use Rattle.sets.specs.Sets.{several}
use Rattle.sets.proofs.Laws.{ones_count}
use Rattle.sets.proofs.several.Goals as goal

pub returns : goal.returns
unfolding several
returns c = rw (ones_count 64 _ c.ranges.set.fits)
