use Rattle.std.proofs.Common.{ℕ, ◌≡◌, ◌-◌, ◌<◌, None}
use Rattle.conditions.proofs.WalkLaws.{rest}
use Rattle.conditions.specs.Conditions.{settled}
use Rattle.conditions.specs.Check.{c3, test, in_row, in_rows, find}
use Rattle.pack.specs.Image.{states}
use Rattle.groupcheck.proofs.find_k3.Given as goal

abbrev pub invariant-states : goal.invariant-states
invariant-states l = record {
  none : l.found ≡ None;
  same : find c3 l.img ≡ in_rows (test c3 l.img) l.nq (states l.img - l.s) l.s;
}

abbrev pub invariant-scans : goal.invariant-scans
invariant-scans l = record {
  none : l.found ≡ None;
  tested : (j : ℕ) → j < l.nq → settled l.img j l.v ≡ test c3 l.img l.s j;
  same : find c3 l.img ≡ rest (test c3 l.img) l.nq (states l.img) l.s (in_row (test c3 l.img l.s) l.s (l.nq - l.q) l.q);
}
