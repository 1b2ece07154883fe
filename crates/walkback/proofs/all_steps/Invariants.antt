use Rattle.std.proofs.Common.{ℕ, ◌≡◌, ◌<◌, true}
use Rattle.conditions.specs.Conditions.{steps}
use Rattle.walkback.proofs.all_steps.Given as goal

abbrev pub invariant-loop-i : goal.invariant-loop-i
invariant-loop-i l = (k : ℕ) → k < l.i → steps l.img l.s l.p k ≡ true
