use Rattle.edges.proofs.RowLaws.{whole_high}
use Rattle.edges.proofs.rows.NumberSet.of_high.Goals as goal

pub returns : goal.returns
returns c = whole_high _ _ c.requires c.from.ensures
