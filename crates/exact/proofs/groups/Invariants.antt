use Rattle.std.proofs.Common.{◌≡◌, ◌-◌}
use Rattle.pack.specs.Image.{groups}
use Rattle.order.specs.Shape.{each, group_rule}
use Rattle.exact.proofs.groups.Given as goal

abbrev pub invariant-loop-i : goal.invariant-loop-i
invariant-loop-i l = each (group_rule l.img) (groups l.img - l.i) l.i ≡ each (group_rule l.img) (groups l.img) 0
