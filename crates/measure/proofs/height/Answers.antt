use mathlib.Core.Path.{refl}
use Prim.Native.Nat.{◌+◌, ◌*◌, ◌≤◌}
use lib.ListN.{length}
use native.Mathlib.Omega.{arith}
use Rattle.measure.proofs.Heights.{count_start, over_height, count_end, count_wrong, count_on}
use Rattle.measure.proofs.height.Goals as goal

pub returns-then-n-tree : goal.returns-then-n-tree
returns-then-n-tree c = over_height _ _ refl c.if-n-tree.true

pub loop-i-init : goal.loop-i-init
loop-i-init c = count_start _

pub returns-in_err-h : goal.returns-in_err-h
returns-in_err-h c text =
    let there : (c.loop-i.i + 1) * 4 ≤ length c.args.tree.now = omega arith in
    rw c.from_residual.ensures (count_wrong _ _ _ c.loop-i.invariant there c.word.ensures c.word-in-loop-i.ensures refl c.in_err-h.ensures text)

pub loop-i-preserved : goal.loop-i-preserved
loop-i-preserved c =
    let there : (c.loop-i.i + 1) * 4 ≤ length c.args.tree.now = omega arith in
    count_on _ _ _ c.loop-i.invariant there c.word.ensures c.word-in-loop-i.ensures c.in_ok-h.ensures.0 c.in_ok-h.ensures.1

pub returns : goal.returns
returns c = count_end _ _ _ _ refl c.if-n-tree.false (omega arith) c.loop-i-test.false c.loop-i.invariant
