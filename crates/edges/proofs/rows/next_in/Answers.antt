use Rattle.std.proofs.Common.{arith}
use Rattle.edges.proofs.RowLaws.{next_none64, next_there64}
use Rattle.edges.proofs.rows.next_in.Goals as goal

pub returns-then-rest-eq0 : goal.returns-then-rest-eq0
returns-then-rest-eq0 c = next_none64 _ _ c.requires c.if-rest-eq0.true

pub returns : goal.returns
returns c = next_there64 _ _ c.ranges.terminals.fits (omega arith)
