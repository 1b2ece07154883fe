use Rattle.std.proofs.Common.{◌≡◌, ℕ, ◌+◌, ◌<◌}
use Rattle.pack.specs.Image.{act}
use Rattle.quick.proofs.empty_column.Given as goal

abbrev pub invariant-loop-s : goal.invariant-loop-s
invariant-loop-s l = (j : ℕ) → j < l.s → act l.img (l.from + j) l.t ≡ 0
