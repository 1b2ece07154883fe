use Rattle.std.proofs.Common.{◌≡◌, ◌-◌, ◌≤◌}
use Rattle.pack.specs.Image.{most_symbols, productions}
use Rattle.conditions.specs.Check.{c5, test, in_row}
use Rattle.walkback.specs.Walked.{Walked}
use Rattle.backcheck.proofs.row5.Given as goal

abbrev pub invariant-loop-p : goal.invariant-loop-p
invariant-loop-p l = record {
  most : l.walk.depth ≤ most_symbols;
  walked : Walked l.img l.s l.walk.depth l.walk.back l.walk.into;
  within : l.from_production ≤ 128;
  same : in_row (test c5 l.img l.s) l.s (productions l.img) 0 ≡ in_row (test c5 l.img l.s) l.s (productions l.img - l.from_production) l.from_production;
}

abbrev pub decreases-loop-p : goal.decreases-loop-p
decreases-loop-p l = 128 - l.from_production
