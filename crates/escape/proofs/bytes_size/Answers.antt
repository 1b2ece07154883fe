use native.Mathlib.Omega.{arith}
use lib.ListN.{get_or}
use Rattle.escape.proofs.Escaped.{escaped_longer}
use Rattle.escape.proofs.Sizes.{sized_on, sized_end}
use Rattle.escape.proofs.bytes_size.Goals as goal

pub overflow_add-size : goal.overflow_add-size
overflow_add-size c = omega (arith, c.loop-b.invariant.most, c.width-size.ensures, escaped_longer (get_or c.args.bytes.now c.loop-b.b-index 0), c.well_formed)

pub loop-b-preserved : goal.loop-b-preserved
loop-b-preserved c = sized_on _ _ _ c.loop-b-test.true c.width-size.ensures c.loop-b.invariant

pub returns : goal.returns
returns c = sized_end _ _ _ (omega arith) c.loop-b.invariant
