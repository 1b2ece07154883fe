use Rattle.groupcheck.proofs.Laws.{together_more}
use Rattle.groupcheck.proofs.together.Goals as goal

pub loop-q-preserved : goal.loop-q-preserved
loop-q-preserved c = together_more _ _ c.loop-q.invariant c.acc.ensures c.crowd-set.ensures.0
