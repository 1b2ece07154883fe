use Rattle.sets.proofs.Laws.{ones_count}
use Rattle.sets.proofs.count.Goals as goal

pub returns : goal.returns
returns c = ones_count 64 _ c.ranges.set.fits
