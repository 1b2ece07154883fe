use Rattle.std.proofs.Common.{ℕ, ◌≡◌, ◌<◌, true}
use Rattle.pack.specs.Image.{move}
use Rattle.conditions.specs.Conditions.{within}
use Rattle.posscheck.proofs.k2.Given as goal

abbrev pub invariant-loop-c : goal.invariant-loop-c
invariant-loop-c l = (i : ℕ) → i < l.c → within l.img l.q (move l.img l.q i) ≡ true
