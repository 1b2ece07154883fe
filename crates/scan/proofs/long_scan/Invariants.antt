use mathlib.Core.Path.{◌≡◌}
use Prim.Native.Nat.{◌<◌, ◌≤◌, ◌-◌}
use lib.ListN.{length, drop}
use Rattle.pack.specs.Image.{scan_states}
use Rattle.scan.specs.Scan.{scan, scan_from}
use Rattle.scan.proofs.long_scan.Given as goal

abbrev pub invariant-loop-index : goal.invariant-loop-index
invariant-loop-index l = record {
  in_states : l.state < scan_states l.img;
  within : l.moves ≤ length l.bytes;
  none : l.last.set ≡ 0 → l.last.length ≡ 0;
  same : scan_from l.img l.v (l.allowance - l.moves) (drop l.moves l.bytes) l.state l.moves l.last ≡ scan l.img l.v l.allowance l.bytes;
}

abbrev pub decreases-loop-index : goal.decreases-loop-index
decreases-loop-index l = length l.bytes - l.moves
