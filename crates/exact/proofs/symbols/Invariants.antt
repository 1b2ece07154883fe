use Rattle.std.proofs.Common.{◌≡◌, ◌-◌}
use Rattle.pack.specs.Image.{most_symbols}
use Rattle.order.specs.Shape.{each, symbol_rule}
use Rattle.exact.proofs.symbols.Given as goal

abbrev pub invariant-loop-i : goal.invariant-loop-i
invariant-loop-i l = each (symbol_rule l.img l.p) (most_symbols - l.i) l.i ≡ each (symbol_rule l.img l.p) most_symbols 0
