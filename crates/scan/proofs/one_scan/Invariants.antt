use mathlib.Core.Path.{◌≡◌}
use Prim.Native.Nat.{◌<◌, ◌≤◌, ◌-◌}
use lib.ListN.{length, drop}
use Rattle.pack.specs.Image.{scan_states}
use Rattle.scan.specs.Scan.{scan, scan_from}
use Rattle.scan.proofs.one_scan.Given as goal

abbrev pub invariant-loop-kept : goal.invariant-loop-kept
invariant-loop-kept l = record {
  in_states : l.q < scan_states l.img;
  within : l.near ≤ length l.bytes;
  none : l.kept.set ≡ 0 → l.kept.length ≡ 0;
  same : scan_from l.img l.v (l.allowance - l.n) (drop l.n l.bytes) l.q l.n l.kept ≡ scan l.img l.v l.allowance l.bytes;
}

abbrev pub decreases-loop-kept : goal.decreases-loop-kept
decreases-loop-kept l = l.near - l.n
