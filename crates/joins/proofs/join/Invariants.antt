use Rattle.std.proofs.Common.{◌-◌, ◌≤◌}
use Rattle.edges.specs.Rows.{Whole}
use Rattle.joins.proofs.Laws.{joined_below}
use Rattle.joins.proofs.join.Given as goal

abbrev pub invariant-loop-v : goal.invariant-loop-v
invariant-loop-v l = record { within : l.from ≤ 128; below : Whole (joined_below l.row l.of l.from) l.all }

abbrev pub decreases-loop-v : goal.decreases-loop-v
decreases-loop-v l = 128 - l.from
