use Rattle.std.proofs.Common.{ℕ, ◌*◌, ◌<◌, ◌≤◌, get_or}
use Rattle.pack.specs.Image.{ranges, lo}
use Rattle.index.specs.Index.{Tells}
use Rattle.index.proofs.index_of.Given as goal

abbrev pub invariant-loop-i : goal.invariant-loop-i
invariant-loop-i l = record {
  within : l.known ≤ ranges l.img;
  below : (k : ℕ) → k < l.known → lo l.img k ≤ l.i * 8;
  each : (m : ℕ) → m < l.i → Tells l.img (m * 8) (get_or l.cell-items m 0);
}
