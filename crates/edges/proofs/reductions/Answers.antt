use Rattle.std.proofs.Common.{◌≡◌, arith}
use Rattle.pack.specs.Image.{terminals}
use Rattle.edges.proofs.TableLaws as laws
use Rattle.edges.proofs.reductions.Goals as goal

pub loop-t-init : goal.loop-t-init
loop-t-init c = laws.reduces_none _ _

pub loop-t-preserved : goal.loop-t-preserved
loop-t-preserved c = laws.reduces_more _ _ _ c.loop-t.invariant c.act.ensures c.reduce_of.ensures c.with-by.ensures

pub returns : goal.returns
returns c =
    let z : c.loop-t.t ≡ terminals c.args.img.now = omega arith in
    laws.reduces_all _ _ (rw z at c.loop-t.invariant)
