use mathlib.Core.Path.{◌≡◌}
use Prim.Native.Nat.{◌+◌, ◌≤◌}
use Rattle.pack.specs.Image.{ranges, class_in}
use Rattle.classes.proofs.among.Given as goal

abbrev pub invariant-loop-left : goal.invariant-loop-left
invariant-loop-left l = (1 ≤ l.left) × (l.r + l.left ≤ ranges l.img) × (class_in l.img l.byte l.many l.from ≡ class_in l.img l.byte l.left l.r)

abbrev pub decreases-loop-left : goal.decreases-loop-left
decreases-loop-left l = l.left
