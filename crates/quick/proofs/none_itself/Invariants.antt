use Rattle.std.proofs.Common.{◌≡◌, false, ℕ, ◌<◌}
use Rattle.sets.specs.Sets.{member}
use Rattle.pack.specs.Image.{dom}
use Rattle.quick.proofs.none_itself.Given as goal

abbrev pub invariant-loop-t : goal.invariant-loop-t
invariant-loop-t l = (j : ℕ) → j < l.t → member (dom l.img j) j ≡ false
