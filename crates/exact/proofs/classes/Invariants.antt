use Rattle.std.proofs.Common.{◌≡◌, ◌-◌}
use Rattle.pack.specs.Image.{ranges}
use Rattle.order.specs.Shape.{each, range_rule}
use Rattle.exact.proofs.classes.Given as goal

abbrev pub invariant-loop-i : goal.invariant-loop-i
invariant-loop-i l = each (range_rule l.img) (ranges l.img - l.i) l.i ≡ each (range_rule l.img) (ranges l.img) 0
