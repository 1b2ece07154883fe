use borrow.Author.Tests.{lt-ltb, le-ltb}
use Rattle.answers.specs.Numbers.{part_of}
use Rattle.answers.proofs.part_of.Goals as goal

pub returns-then-row-lt4 : goal.returns-then-row-lt4
unfolding part_of
returns-then-row-lt4 c = simp (part_of, lt-ltb _ _ c.if-row-lt4.true)

pub returns : goal.returns
unfolding part_of
returns c = simp (part_of, le-ltb _ _ c.if-row-lt4.false) c.leaf_part.ensures.value
