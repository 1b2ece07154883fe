use Rattle.std.proofs.Common.{◌≡◌, ◌-◌}
use Rattle.conditions.specs.Check.{in_rows}
use Rattle.conditions.proofs.first_wrong.Given as goal

abbrev pub invariant-loop-i : goal.invariant-loop-i
invariant-loop-i g l = in_rows (λ i j. g.right i) 1 (l.states - l.i) l.i ≡ in_rows (λ i j. g.right i) 1 l.states 0
