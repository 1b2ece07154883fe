use Rattle.std.proofs.Common.{◌≡◌, ◌+◌, ◌-◌}
use Rattle.order.specs.Shape.{each, cell_rule}
use Rattle.exact.proofs.cells.Given as goal

abbrev pub invariant-loop-i : goal.invariant-loop-i
invariant-loop-i l = each (λ k. cell_rule l.img l.most (l.start + k)) (l.n - l.i) l.i ≡ each (λ k. cell_rule l.img l.most (l.start + k)) l.n 0
