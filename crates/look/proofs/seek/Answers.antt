use native.Mathlib.Omega.{arith}
use Rattle.scan.proofs.Laws.{rest_of}
use Rattle.look.proofs.Laws.{seek_same, seek_moves, seek_within}
use Rattle.look.proofs.seek.Goals as goal

pub overflow_add-at : goal.overflow_add-at
overflow_add-at c =
    let t = c.args.text.now in
    omega (arith, c.ranges, seek_moves _ t _ _ _ c.one_scan-found.result (rest_of t _) c.one_scan-found.ensures.value c.requires.within)

pub returns-clause-value : goal.returns-clause-value
returns-clause-value c = let t = c.args.text.now in seek_same _ t _ _ _ c.one_scan-found.result (rest_of t _) c.one_scan-found.ensures.value

pub returns-clause-sought_within : goal.returns-clause-sought_within
returns-clause-sought_within c =
    let t = c.args.text.now in
    seek_within _ t _ _ _ c.one_scan-found.result (rest_of t _) c.one_scan-found.ensures.value c.requires.within c.requires.v_bound
