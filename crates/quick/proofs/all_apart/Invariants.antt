use Rattle.std.proofs.Common.{◌≡◌, ℕ, ◌<◌}
use Rattle.sets.specs.Sets.{meet}
use Rattle.pack.specs.Image.{acc, rej}
use Rattle.quick.proofs.all_apart.Given as goal

abbrev pub invariant-loop-q : goal.invariant-loop-q
invariant-loop-q l = (j : ℕ) → j < l.q → meet (acc l.img j) (rej l.img j) ≡ 0
