use mathlib.Core.Path.{refl}
use Rattle.sets.specs.Sets.{has, member}
use Rattle.sets.proofs.Laws.{has_above}
use Rattle.sets.proofs.member.Goals as goal

pub returns-then-t-lt64 : goal.returns-then-t-lt64
unfolding member has
returns-then-t-lt64 c = refl

pub returns : goal.returns
unfolding member
returns c = rw (has_above _ c.ranges.set.fits c.if-t-lt64.false)
