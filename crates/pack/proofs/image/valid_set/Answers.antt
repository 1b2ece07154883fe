use Rattle.std.proofs.Common.{arith}
use Rattle.pack.proofs.Valid.{valid_with, valid_end}
use Rattle.pack.proofs.image.valid_set.Goals as goal

pub loop-t-preserved : goal.loop-t-preserved
loop-t-preserved c =
    let v = c.loop-t.invariant in
    let more = valid_with _ _ _ _ v.found (omega (arith, c.loop-t-test.true, c.terminals-t-end.ensures)) v.below c.act.ensures c.with-set.ensures in
    record { found = more.0; below = more.1 }

pub returns : goal.returns
returns c = valid_end _ _ _ _ c.loop-t.invariant.found (omega (arith, c.loop-t-test.false, c.terminals-t-end.ensures))
