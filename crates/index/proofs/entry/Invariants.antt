use Rattle.std.proofs.Common.{◌≡◌, ℕ, ◌+◌, ◌/◌, ◌%◌, ◌^◌, ◌<◌, ◌≤◌}
use Rattle.pack.specs.Image.{ranges, lo}
use Rattle.index.specs.Index.{Begun}
use Rattle.index.proofs.entry.Given as goal

abbrev pub invariant-loop-j : goal.invariant-loop-j
invariant-loop-j l = record {
  field : l.field ≡ 8 ^ l.j;
  small : l.fields < 8 ^ l.j;
  more : l.base ≤ l.all;
  within : l.all ≤ ranges l.img;
  below : (k : ℕ) → k < l.all → lo l.img k ≤ l.first + l.j;
  each : (i : ℕ) → i < l.j → Begun l.img (l.first + i) (l.base + l.fields / 8 ^ i % 8);
}
