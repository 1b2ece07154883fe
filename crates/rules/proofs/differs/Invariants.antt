use Rattle.std.proofs.Common.{◌≡◌, ◌-◌}
use Rattle.parserules.specs.Rules.{differs}
use Rattle.rules.proofs.differs.Given as goal

abbrev pub invariant-loop-g : goal.invariant-loop-g
invariant-loop-g l = differs l.img l.set l.n 0 ≡ differs l.img l.set (l.n - l.g) l.g
