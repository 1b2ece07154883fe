use Rattle.std.proofs.Common.{refl}
use Rattle.std.proofs.lemmas.Result.{err_from_is_err_and}
use Rattle.look.specs.Look.{look}
use Rattle.records.specs.Inner.{standing}
use Rattle.parse.proofs.RunLaws.{turn_refused, turn_found}
use Rattle.parse.proofs.run.turn.Goals as goal

pub returns-in_err-token-clause-result_after : goal.returns-in_err-token-clause-result_after
returns-in_err-token-clause-result_after c =
    let p = err_from_is_err_and c.from_residual.result c.from_residual.ensures.1 in
    rw (p.1, p.2) (turn_refused c.args.img.now (look c.args.img.now c.args.text.now c.args.allowance) _ (standing c.args.parser.now c.args.tree.now)
    (rw (c.from-top.ensures, c.top.ensures.value, c.in_err-token.was) at c.look-next.ensures.value) _ refl)

pub returns-clause-result_after : goal.returns-clause-result_after
returns-clause-result_after c =
    turn_found c.args.img.now (look c.args.img.now c.args.text.now c.args.allowance) _ (standing c.args.parser.now c.args.tree.now)
    (rw (c.from-top.ensures, c.top.ensures.value, c.in_ok-token.was) at c.look-next.ensures.value) refl c.perform.ensures.result_after
