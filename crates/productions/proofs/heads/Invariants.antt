use Rattle.std.proofs.Common.{◌≡◌, ℕ, ◌*◌, ◌<◌, ◌≤◌}
use Rattle.order.specs.Quick.{sum}
use Rattle.productions.specs.Flat.{allowed, Head}
use Rattle.productions.proofs.heads.Given as goal

abbrev pub invariant-loop-p : goal.invariant-loop-p
invariant-loop-p l = record {
  few : l.many ≤ l.p * 16;
  counted : l.many ≡ sum (allowed l.img l.last l.layout) l.p;
  each : (q : ℕ) → q < l.p → Head l.img q;
}
