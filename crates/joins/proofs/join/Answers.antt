use Rattle.std.proofs.Common.{arith}
use Rattle.std.proofs.lemmas.Grind.{get_or_default_zero}
use Rattle.joins.proofs.Laws as laws
use Rattle.joins.proofs.join.Goals as goal

pub loop-v-init : goal.loop-v-init
loop-v-init c = record { within = omega arith; below = laws.join_none _ _ }

pub loop-v-preserved : goal.loop-v-preserved
loop-v-preserved c =
    let next = c.in-Some.ensures in record {
      within = omega arith;
      below = rw (c.bitor-all.ensures, get_or_default_zero c.args.row.now c.in-Some.v c.index-row-v.result (omega arith)) (laws.join_more _ _ _ _ c.loop-v.invariant.below next.1 next.0);
    }

pub returns : goal.returns
returns c = laws.join_all _ _ _ c.loop-v.invariant.below c.in_default.ensures
