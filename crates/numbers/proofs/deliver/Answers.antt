use mathlib.Core.Path.{◌≡◌, refl}
use native.Mathlib.Omega.{arith}
use lib.ListN.{length}
use lib.Seq.{take_all}
use Rattle.numbers.proofs.Laws.{deliver_small, deliver_done}
use Rattle.numbers.proofs.deliver.Goals as goal

pub returns-then-buffer-size : goal.returns-then-buffer-size
returns-then-buffer-size c = deliver_small _ _ _ c.if-buffer-size.true

pub returns : goal.returns
returns c =
    let l = c.loop-i in
    let words = c.args.words.now in
    let z : l.i ≡ length words = omega (arith, l.auto.i-end, c.loop-i-test.false) in
    deliver_done words _ _ _ _ c.if-buffer-size.false refl (rw (take_all l.i words c.loop-i-test.false, z) at l.invariant.1)
