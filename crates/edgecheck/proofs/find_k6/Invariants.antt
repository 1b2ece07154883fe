use Rattle.std.proofs.Common.{◌≡◌, ◌-◌}
use Rattle.pack.specs.Image.{states}
use Rattle.conditions.specs.Check.{c6, test, in_rows, find}
use Rattle.edgecheck.proofs.find_k6.Given as goal

abbrev pub invariant-loop-s : goal.invariant-loop-s
invariant-loop-s l = find c6 l.img ≡ in_rows (test c6 l.img) 1 (states l.img - l.s) l.s
