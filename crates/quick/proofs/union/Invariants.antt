use Rattle.std.proofs.Common.{ℕ, ◌+◌, ◌*◌, ◌<◌}
use Rattle.pack.specs.Image.{set_words, set_at}
use Rattle.order.specs.Quick.{Part}
use Rattle.quick.proofs.union.Given as goal

abbrev pub invariant-loop-k : goal.invariant-loop-k
invariant-loop-k l = (j : ℕ) → j < l.k → Part (set_at l.img (l.start + j * set_words)) l.all
