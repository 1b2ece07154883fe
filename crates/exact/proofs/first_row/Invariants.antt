use mathlib.Core.Path.{◌≡◌}
use Prim.Native.Nat.{◌+◌, ◌-◌, ◌≤◌}
use Rattle.pack.specs.Image.{states}
use Rattle.order.specs.declared.Ruled.TheVariants.{Act}
use Rattle.order.specs.Shape.{each}
use Rattle.order.specs.Rows.{row_rule}
use Rattle.exact.proofs.first_row.Given as goal

abbrev pub invariant-loop-many : goal.invariant-loop-many
invariant-loop-many l =
    (l.from + l.many ≤ states l.img) × (each (row_rule l.img Act) (states l.img) 0 ≡ each (row_rule l.img Act) (states l.img - l.from) l.from)

abbrev pub decreases-loop-many : goal.decreases-loop-many
decreases-loop-many l = l.many
