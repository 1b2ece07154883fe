use Rattle.std.proofs.Common.{arith}
use Rattle.edges.proofs.RowLaws.{next_from_64}
use Rattle.edges.proofs.rows.NumberSet.next_high.Goals as goal

pub returns-in-Some : goal.returns-in-Some
returns-in-Some c = (omega (arith, c.in-Some.ensures.0), next_from_64 _ _ c.high.ensures c.in-Some.ensures.1)

pub returns-in-None : goal.returns-in-None
returns-in-None c = next_from_64 _ _ c.high.ensures c.in-None.ensures
