use Rattle.edges.specs.Rows.{cell_of}
use Rattle.edges.proofs.RowLaws.{with_none, with_one}
use Rattle.edges.proofs.rows.NumberSet.with.Goals as goal

pub returns-in-Some : goal.returns-in-Some
unfolding cell_of
returns-in-Some c = rw (c.in-Some.is, c.bitor.ensures) (with_one _ _ _ c.of.ensures)

pub returns-in-None : goal.returns-in-None
unfolding cell_of
returns-in-None c = rw c.in-None.is (with_none _)
