use Rattle.std.proofs.Common.{◌≡◌, ◌-◌}
use Rattle.order.specs.Shape.{each}
use Rattle.order.specs.Rows.{row_rule}
use Rattle.exact.proofs.rows.Given as goal

abbrev pub invariant-loop-i : goal.invariant-loop-i
invariant-loop-i l = each (row_rule l.img l.table) (l.n - l.i) l.i ≡ each (row_rule l.img l.table) (l.n - l.from) l.from
