use mathlib.Core.Path.{refl}
use Rattle.sets.specs.Sets.{subset}
use Rattle.sets.proofs.subset.Goals as goal

pub returns : goal.returns
unfolding subset
returns c = refl
