use Rattle.std.proofs.Common.{get_or}
use Rattle.records.specs.Inner.{standing}
use Rattle.records.proofs.ActLaws.{accept_told, perform_error, perform-accept, perform_shift, perform_reduce}
use Rattle.shape.proofs.GoodParser.{good_shift_to, good_reduce_by}
use Rattle.act.proofs.perform.Goals as goal

pub shift-requires-clause-s_bound : goal.shift-requires-clause-s_bound
shift-requires-clause-s_bound c =
    (good_shift_to _ c.requires.good_shape (get_or c.args.parser.now.stack 0 0) c.args.token.terminal c.in-Shift.s (c.requires.stacked 0) c.requires.terminal_bound (cc), c.requires.terminal_bound)

pub reduce-requires-clause-p_bound : goal.reduce-requires-clause-p_bound
reduce-requires-clause-p_bound c =
    good_reduce_by _ c.requires.good_shape (get_or c.args.parser.now.stack 0 0) c.args.token.terminal c.in-Reduce.p (c.requires.stacked 0) c.requires.terminal_bound (cc)

pub returns-in-Error-clause-result_after : goal.returns-in-Error-clause-result_after
returns-in-Error-clause-result_after c = perform_error c.args.img.now _ (standing c.args.parser.now c.args.tree.now) _ _ (cc)

pub returns-in-Accept-clause-result_after : goal.returns-in-Accept-clause-result_after
returns-in-Accept-clause-result_after c =
    perform-accept c.args.img.now _ (standing c.args.parser.now c.args.tree.now) _ _ (cc) (accept_told c.args.img.now _ (standing c.args.parser.now c.args.tree.now) c.accept.ensures)

pub returns-in-Shift-clause-result_after : goal.returns-in-Shift-clause-result_after
returns-in-Shift-clause-result_after c =
    perform_shift c.args.img.now _ (standing c.args.parser.now c.args.tree.now) _ _ {s = c.in-Shift.s} (cc) c.shift.ensures.result_after

pub returns-in-Reduce-clause-result_after : goal.returns-in-Reduce-clause-result_after
returns-in-Reduce-clause-result_after c =
    perform_reduce c.args.img.now _ (standing c.args.parser.now c.args.tree.now) _ _ {p = c.in-Reduce.p} (cc) c.reduce.ensures.result_after
