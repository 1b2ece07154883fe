use Rattle.std.proofs.Common.{refl, arith}
use Rattle.walkback.proofs.Laws.{walked_more}
use Rattle.walkback.proofs.extend.Goals as goal

pub loop-depth-preserved : goal.loop-depth-preserved
loop-depth-preserved c =
    let q = c.requires in record {
      depth_is = refl;
      most = omega (arith, q.s_bound.1.1);
      walked = walked_more _ q.laid _ q.s_bound.0 q.edge_tables.0 q.edge_tables.1 c.loop-depth.invariant.walked c.collect.ensures c.step.ensures;
    }
