use Rattle.edges.proofs.RowLaws.{whole_low}
use Rattle.edges.proofs.rows.NumberSet.of_low.Goals as goal

pub returns : goal.returns
returns c = whole_low _ _ c.requires c.from.ensures
