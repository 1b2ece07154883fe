use Rattle.std.proofs.lemmas.Result.{err_from_is_err_and}
use Rattle.conditions.specs.Check.{c4, c5, c6, number}
use Rattle.checker.proofs.Laws.{fails_here, holds_here, last_here}
use Rattle.checker.proofs.walk_edges.Goals as goal

pub returns-in_err-holds : goal.returns-in_err-holds
unfolding number
returns-in_err-holds c =
    let p = err_from_is_err_and c.from_residual.result c.from_residual.ensures.1 in
    rw (p.1, p.2) (fails_here c4 _ _ c.find_k4.ensures _ c.in_err-holds.ensures)

pub returns-in_err-holds-2 : goal.returns-in_err-holds-2
unfolding number
returns-in_err-holds-2 c =
    let p = err_from_is_err_and c.from_residual-in_err-holds-2.result c.from_residual-in_err-holds-2.ensures.1 in
    rw (p.1, p.2) (holds_here c4 _ _ c.find_k4.ensures _ c.in_ok-holds.ensures (fails_here c5 _ _ c.find_k5.ensures _ c.in_err-holds-2.ensures))

pub returns : goal.returns
unfolding number
returns c =
    holds_here c4 _ _ c.find_k4.ensures _ c.in_ok-holds.ensures
    (holds_here c5 _ _ c.find_k5.ensures _ c.in_ok-holds-2.ensures (last_here c6 _ _ c.find_k6.ensures _ c.holds-3.ensures))
