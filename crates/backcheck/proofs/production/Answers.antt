use Rattle.std.proofs.Common.{◌∙◌}
use Rattle.shape.proofs.GoodParser.{good_len}
use Rattle.backcheck.proofs.Laws as laws
use Rattle.backcheck.proofs.production.Goals as goal

pub extend-requires-clause-s_bound : goal.extend-requires-clause-s_bound
extend-requires-clause-s_bound c =
    let q = c.requires.s_bound in
    (q.0, (q.1.1, rw c.len.ensures (good_len _ c.requires.good_shape _ q.1.0)))

pub returns-then-all_steps : goal.returns-then-all_steps
returns-then-all_steps c =
    (laws.k5_end _ _ _ c.requires.row_reduces c.all_steps.ensures c.if-all_steps.true c.end_right.ensures, (c.extend.ensures.0, c.extend.ensures.1.1))

pub returns-else-all_steps : goal.returns-else-all_steps
returns-else-all_steps c =
    (c.if-all_steps.false ∙ laws.k5-steps _ _ _ c.requires.row_reduces c.all_steps.ensures c.if-all_steps.false, (c.extend.ensures.0, c.extend.ensures.1.1))
