use Rattle.std.proofs.Common.{◌≡◌, ◌≤◌, get_or}
use Rattle.order.specs.Quick.{sum}
use Rattle.productions.specs.Flat.{no_symbol}
use Rattle.productions.proofs.no_symbols.Given as goal

abbrev pub invariant-loop-word : goal.invariant-loop-word
invariant-loop-word l = record {
  few : l.many ≤ l.word-index;
  counted : l.many ≡ sum (λ j. no_symbol l.last l.n l.layout (get_or l.words j 0)) l.word-index;
}
