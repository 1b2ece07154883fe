use Rattle.scan.proofs.Laws.{either_end}
use Rattle.scan.proofs.one_scan.Goals as goal

pub returns-then-near-n-clause-value : goal.returns-then-near-n-clause-value
returns-then-near-n-clause-value c =
    either_end _ _ _ _ _ _ _ _ c.beyond.ensures.before_the_end c.beyond.ensures.at_the_end c.loop-kept.invariant.same
