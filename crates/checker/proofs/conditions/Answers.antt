use Rattle.std.proofs.lemmas.Result.{err_from_is_err_and}
use Rattle.conditions.specs.Check.{c1, c2, c3, number}
use Rattle.checker.proofs.Laws.{fails_here, holds_here}
use Rattle.checker.proofs.conditions.Goals as goal

pub returns-in_err-holds : goal.returns-in_err-holds
unfolding number
returns-in_err-holds c =
    let p = err_from_is_err_and c.from_residual.result c.from_residual.ensures.1 in
    rw (p.1, p.2) (fails_here c1 _ _ c.find_k1.ensures _ c.in_err-holds.ensures)

pub returns-in_err-holds-2 : goal.returns-in_err-holds-2
unfolding number
returns-in_err-holds-2 c =
    let p = err_from_is_err_and c.from_residual-in_err-holds-2.result c.from_residual-in_err-holds-2.ensures.1 in
    rw (p.1, p.2) (holds_here c1 _ _ c.find_k1.ensures _ c.in_ok-holds.ensures (fails_here c2 _ _ c.find_k2.ensures _ c.in_err-holds-2.ensures))

pub returns-in_err-holds-3 : goal.returns-in_err-holds-3
unfolding number
returns-in_err-holds-3 c =
    let p = err_from_is_err_and c.from_residual-in_err-holds-3.result c.from_residual-in_err-holds-3.ensures.1 in
    rw (p.1, p.2) (holds_here c1 _ _ c.find_k1.ensures _ c.in_ok-holds.ensures
    (holds_here c2 _ _ c.find_k2.ensures _ c.in_ok-holds-2.ensures (fails_here c3 _ _ c.find_k3.ensures _ c.in_err-holds-3.ensures)))

pub returns : goal.returns
returns c =
    holds_here c1 _ _ c.find_k1.ensures _ c.in_ok-holds.ensures
    (holds_here c2 _ _ c.find_k2.ensures _ c.in_ok-holds-2.ensures (holds_here c3 _ _ c.find_k3.ensures _ c.in_ok-holds-3.ensures c.parser_conditions.ensures))
