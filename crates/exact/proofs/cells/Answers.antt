use Rattle.std.proofs.Common.{refl, arith, ◌+◌}
use Rattle.order.proofs.Sound.{all_below}
use Rattle.exact.proofs.cells.Goals as goal

pub returns-then-over-eq0 : goal.returns-then-over-eq0
returns-then-over-eq0 c =
    all_below _ _ _ (c.args.start + c.args.n) _ refl c.requires.0 c.over.ensures (omega (arith, c.if-over-eq0.true))
