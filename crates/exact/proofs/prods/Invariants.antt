use Rattle.std.proofs.Common.{◌≡◌, ◌-◌}
use Rattle.pack.specs.Image.{productions}
use Rattle.order.specs.Shape.{each, prod_rule}
use Rattle.exact.proofs.prods.Given as goal

abbrev pub invariant-loop-i : goal.invariant-loop-i
invariant-loop-i l = each (prod_rule l.img) (productions l.img - l.i) l.i ≡ each (prod_rule l.img) (productions l.img) 0
