use Rattle.std.proofs.Common.{◌≡◌, ℕ, ◌+◌, ◌-◌, ◌%◌, ◌<◌, ◌≤◌, get_or}
use Rattle.order.specs.Quick.{sum, accept}
use Rattle.quick.proofs.codes.Given as goal

abbrev pub invariant-loop-code : goal.invariant-loop-code
invariant-loop-code l = record {
  few : l.accepts ≤ l.code-index;
  accepts : l.accepts ≡ sum (λ j. accept (get_or l.words j 0)) l.code-index;
  each : (j : ℕ) → j < l.code-index → get_or l.words j 0 ≤ l.most + l.over;
  even : l.apart % 2 ≡ 0 → (j : ℕ) → j < l.code-index → (get_or l.words j 0 - l.low) % 2 ≡ 0;
}
