use Rattle.std.proofs.Common.{ℕ, ◌≡◌, ◌<◌, false, eqb}
use Rattle.pack.specs.Image.{group_set}
use Rattle.groupcheck.proofs.is_group.Given as goal

abbrev pub invariant-loop-g : goal.invariant-loop-g
invariant-loop-g l = (i : ℕ) → i < l.g → eqb (group_set l.img i) l.set ≡ false
