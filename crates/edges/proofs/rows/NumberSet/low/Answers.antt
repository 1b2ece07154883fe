use Rattle.edges.proofs.RowLaws.{low_half}
use Rattle.edges.proofs.rows.NumberSet.low.Goals as goal

pub returns : goal.returns
returns c = λ t l. rw (← c.self.view_is) (low_half _ t l)
