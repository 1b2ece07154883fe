-- `cells::read_cells` meets its contract.
use native.Mathlib.Omega.{arith}
use Rattle.cells.proofs.TurnLaws.{cells_done}
use Rattle.cells.proofs.read_cells.Goals as goal

pub returns-in-Some : goal.returns-in-Some
returns-in-Some c =
    let l = c.columns in
    cells_done _ _ l.row _ l.next l.first l.invariant.same _ _ l.invariant.next_inside (omega (arith, c.pad.auto.img)) l.invariant.within c.in-Some.ensures c.pad.ensures
