use Rattle.std.proofs.Common.{sym, arith}
use Rattle.conditions.proofs.TestLaws.{all_false}
use Rattle.walkback.proofs.all_steps.Goals as goal

pub returns-then-not-step_right : goal.returns-then-not-step_right
returns-then-not-step_right c =
    sym (all_false _ _ c.loop-i.i (omega arith) (sym c.if-not-step_right.ensures))
