use Rattle.edges.proofs.RowLaws.{whole_far}
use Rattle.edges.proofs.rows.NumberSet.of.Goals as goal

pub returns : goal.returns
returns c = whole_far _ c.if-n-lt128.false
