use native.Mathlib.Omega.{arith}
use Rattle.putcells.proofs.CellLaws.{cell_none, cell_some}
use Rattle.putcells.proofs.write_cell.Goals as goal

pub returns-then-code-eq0 : goal.returns-then-code-eq0
returns-then-code-eq0 g c = rw (cell_none _ _ _ c.if-code-eq0.true) (record { taken = g.met.S.Sink.takes_none _ _; room = omega arith })

pub returns-clause-taken : goal.returns-clause-taken
returns-clause-taken g c =
    let more = g.met.S.Sink.takes_more in
    rw (cell_some _ _ _ c.if-code-eq0.false)
    (more _ _ _ _ _ _ _ _ c.write_comma-a.ensures.taken (more _ _ _ _ _ _ _ _ c.write_decimal-b.ensures.taken (more _ _ _ _ _ _ _ _ c.put-c.ensures.taken c.write_decimal.ensures.taken)))
