use mathlib.Core.Path.{◌≡◌}
use Prim.Native.Nat.{◌-◌}
use Rattle.pack.specs.Image.{groups}
use Rattle.scan.specs.Token.{chosen_in}
use Rattle.token.proofs.chosen_of.Given as goal

abbrev pub invariant-loop-g : goal.invariant-loop-g
invariant-loop-g l = chosen_in l.img l.set (groups l.img - l.g) l.g ≡ chosen_in l.img l.set (groups l.img) 0
