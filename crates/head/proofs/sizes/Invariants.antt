use Rattle.std.proofs.Common.{◌≡◌, ◌-◌}
use Rattle.pack.specs.Image.{size_words, head_words}
use Rattle.order.specs.Shape.{each, size_rule}
use Rattle.head.proofs.sizes.Given as goal

abbrev pub invariant-loop-i : goal.invariant-loop-i
invariant-loop-i l = each (size_rule l.img) (head_words - l.i) l.i ≡ each (size_rule l.img) size_words 1
