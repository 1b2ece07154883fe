use Rattle.std.proofs.Common.{◌≡◌, ◌≤◌}
use Rattle.pack.specs.Image.{most_symbols}
use Rattle.walkback.specs.Walked.{Walked}
use Rattle.walkback.proofs.extend.Given as goal

abbrev pub invariant-loop-depth : goal.invariant-loop-depth
invariant-loop-depth l = record {
  depth_is : l.walk.depth ≡ l.depth;
  most : l.depth ≤ most_symbols;
  walked : Walked l.img l.s l.depth l.walk.back l.walk.into;
}
