use Rattle.std.proofs.Common.{◌≡◌, true, ℕ, ◌+◌, ◌<◌}
use Rattle.sets.specs.Sets.{member}
use Rattle.pack.specs.Image.{layout, act}
use Rattle.quick.proofs.every_column.Given as goal

abbrev pub invariant-loop-t : goal.invariant-loop-t
invariant-loop-t l = (j : ℕ) → j < l.t → member (layout l.img) j ≡ true → (s : ℕ) → s < l.rows → act l.img (l.from + s) j ≡ 0
