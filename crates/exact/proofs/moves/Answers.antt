use native.Mathlib.Omega.{arith}
use Rattle.order.proofs.Laws.{move_cells}
use Rattle.exact.proofs.moves.Goals as goal

pub returns : goal.returns
returns c =
    move_cells _ c.cells.ensures (omega arith) c.move_start-2.ensures c.scan_states.ensures
