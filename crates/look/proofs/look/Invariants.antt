use mathlib.Core.Path.{◌≡◌}
use Prim.Native.Nat.{◌-◌}
use lib.ListN.{length}
use Rattle.look.specs.Inner.{Within}
use Rattle.look.specs.Look.{look}
use Rattle.look.proofs.look.Given as goal

abbrev pub invariant-loop-here : goal.invariant-loop-here
invariant-loop-here l = Within l.text l.allowance l.here × (look l.img l.text l.allowance l.s l.initial.here ≡ look l.img l.text l.allowance l.s l.here)

abbrev pub decreases-loop-here : goal.decreases-loop-here
decreases-loop-here l = length l.text - l.here.place
