use Rattle.std.proofs.Common.{ℕ, ◌≡◌, ◌-◌, ◌<◌, ◌≤◌, true}
use Rattle.sets.specs.Sets.{member}
use Rattle.pack.specs.Image.{rej}
use Rattle.conditions.specs.Tests.{same}
use Rattle.conditions.specs.Conditions.{matched, outranked}
use Rattle.rankcheck.proofs.k1.Given as goal

abbrev pub invariant-loop-t : goal.invariant-loop-t
invariant-loop-t l = record {
  within : l.from ≤ 64;
  below : (i : ℕ) → i < l.from → same (member (rej l.img l.q) i) (outranked l.img (matched l.img l.q) i) ≡ true;
}

abbrev pub decreases-loop-t : goal.decreases-loop-t
decreases-loop-t l = 64 - l.from
