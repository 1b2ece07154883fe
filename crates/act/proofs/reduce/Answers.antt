use Rattle.std.proofs.Common.{arith, ◌∙◌}
use Rattle.pack.specs.Image.{states}
use Rattle.records.specs.Inner.{standing}
use Rattle.records.proofs.ActLaws.{reduce_short, reduce_stuck, reduces}
use Rattle.shape.proofs.GoodParser.{good_lhs, reduce_to}
use Rattle.act.proofs.reduce.Goals as goal

pub returns-then-height-len-clause-result_after : goal.returns-then-height-len-clause-result_after
returns-then-height-len-clause-result_after c = reduce_short c.args.img.now _ (standing c.args.parser.now c.args.tree.now) _ (omega arith)

pub goto-to-requires-clause-s_bound : goal.goto-to-requires-clause-s_bound
goto-to-requires-clause-s_bound c =
    (rw (c.from.ensures, c.below-uncovered.ensures) (c.requires.stacked _), rw c.lhs-lhs.ensures (good_lhs _ c.requires.good_shape _ c.requires.p_bound))

pub returns-then-to-eq0-clause-result_after : goal.returns-then-to-eq0-clause-result_after
returns-then-to-eq0-clause-result_after c =
    reduce_stuck c.args.img.now _ (standing c.args.parser.now c.args.tree.now) _ (omega arith) (cc) c.lhs-lhs.ensures c.goto-to.ensures c.if-to-eq0.true

pub overflow_add-lhs : goal.overflow_add-lhs
overflow_add-lhs c =
    let b = good_lhs _ c.requires.good_shape _ c.requires.p_bound in
    omega (arith, c.lhs-lhs.ensures, b, c.requires.laid.sized.n_most)

pub narrow-requires : goal.narrow-requires
narrow-requires c =
    let b = good_lhs _ c.requires.good_shape _ c.requires.p_bound in
    omega (arith, c.lhs-lhs.ensures, b, c.requires.laid.sized.n_most)

pub narrow-requires-4 : goal.narrow-requires-4
narrow-requires-4 c =
    let b = reduce_to _ c.requires.good_shape (rw (c.from.ensures, c.below-uncovered.ensures) (c.requires.stacked _)) (rw c.lhs-lhs.ensures (good_lhs _ c.requires.good_shape _ c.requires.p_bound)) c.goto-to.ensures in
    omega (arith, b, c.requires.laid.sized.s_most)

pub returns-clause-result_after : goal.returns-clause-result_after
returns-clause-result_after c =
    c.go_on.ensures.result_after
    ∙ rw (← c.from.ensures) (reduces c.args.img.now _ (standing c.args.parser.now c.args.tree.now) _ (omega arith) (cc) c.lhs-lhs.ensures c.goto-to.ensures c.if-to-eq0.false
    c.narrow.ensures c.narrow-2.ensures c.len-len.ensures c.narrow-3.ensures c.narrow-4.ensures)

pub returns-clause-stacked : goal.returns-clause-stacked
returns-clause-stacked c =
    let b = reduce_to _ c.requires.good_shape (rw (c.from.ensures, c.below-uncovered.ensures) (c.requires.stacked _)) (rw c.lhs-lhs.ensures (good_lhs _ c.requires.good_shape _ c.requires.p_bound)) c.goto-to.ensures in
    c.go_on.ensures.stacked (states c.args.img.now) c.requires.stacked (omega (arith, b))
