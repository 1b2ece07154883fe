use Rattle.std.proofs.Common.{◌≡◌, ◌-◌}
use Rattle.pack.specs.Image.{states, productions}
use Rattle.conditions.specs.Check.{c5, test, in_rows, find}
use Rattle.backcheck.proofs.find_k5.Given as goal

abbrev pub invariant-loop-s : goal.invariant-loop-s
invariant-loop-s l = find c5 l.img ≡ in_rows (test c5 l.img) (productions l.img) (states l.img - l.s) l.s
