use Rattle.edges.proofs.RowLaws.{high_half}
use Rattle.edges.proofs.rows.NumberSet.high.Goals as goal

pub returns : goal.returns
returns c = λ t l. rw (← c.self.view_is) (high_half _ t)
