use native.Mathlib.Omega.{arith}
use Rattle.order.proofs.Laws.{goto_cells}
use Rattle.exact.proofs.gotos.Goals as goal

pub returns : goal.returns
returns c =
    goto_cells _ c.cells.ensures (omega arith) c.goto_start-2.ensures c.states.ensures
