use mathlib.Core.Path.{◌≡◌}
use Prim.Native.Nat.{◌≤◌}
use lib.ListN.{length, drop}
use Rattle.print.specs.Print.{escaped}
use Rattle.printwalk.specs.Steps.{Wrote}
use Rattle.printwalk.proofs.put.put_bytes.Given as goal

abbrev pub invariant-loop-i : goal.invariant-loop-i
invariant-loop-i l = (l.i ≤ length l.bytes) × (length l.out ≡ length l.initial.out) × Wrote (escaped (drop l.i l.bytes)) l.initial.out l.to l.out l.at
