use Rattle.std.proofs.Common.{◌≡◌, ◌-◌}
use Rattle.pack.specs.Image.{terminals}
use Rattle.order.specs.Shape.{each, act_rule}
use Rattle.exact.proofs.act_row.Given as goal

abbrev pub invariant-loop-t : goal.invariant-loop-t
invariant-loop-t l = each (act_rule l.img l.s) (terminals l.img - l.t) l.t ≡ each (act_rule l.img l.s) (terminals l.img) 0
