-- `hexset::read_set` meets its contract.
use mathlib.Core.Path.{◌∙◌}
use native.Mathlib.Omega.{arith}
use Rattle.hexset.proofs.HexLaws.{hex_short, hex_bad, hex_on, hex_end, words_room, words_fit, set_wrong, set_is, set_used}
use Rattle.hexset.proofs.read_set.Goals as goal

pub returns-then-bytes-lt-DIGITS-clause-value : goal.returns-then-bytes-lt-DIGITS-clause-value
returns-then-bytes-lt-DIGITS-clause-value c = set_wrong _ (hex_short 16 _ 0 0 c.if-bytes-lt-DIGITS.true)

pub returns-in_err-word-clause-value : goal.returns-in_err-word-clause-value
returns-in_err-word-clause-value c =
    let l = c.loop-i in rw c.from_residual.ensures (set_wrong _ (l.invariant.same ∙ hex_bad c.args.bytes.now l.i l.value l.invariant.long c.loop-i-test.true c.in_err-word.ensures))

pub overflow_mul-value : goal.overflow_mul-value
overflow_mul-value c =
    let l = c.loop-i in omega (arith, words_room l.value 0 l.i l.invariant.small (omega arith), words_fit l.i c.loop-i-test.true)

pub overflow_add-value : goal.overflow_add-value
overflow_add-value c =
    let l = c.loop-i in
    let o = hex_on c.args.bytes.now l.i l.value l.invariant.long c.loop-i-test.true _ c.in_ok-word.ensures in
    omega (arith, words_room l.value _ l.i l.invariant.small o.0, words_fit l.i c.loop-i-test.true)

pub loop-i-preserved : goal.loop-i-preserved
loop-i-preserved c =
    let l = c.loop-i in
    let o = hex_on c.args.bytes.now l.i l.value l.invariant.long c.loop-i-test.true _ c.in_ok-word.ensures in
    record { long = l.invariant.long; small = words_room l.value _ l.i l.invariant.small o.0; same = l.invariant.same ∙ o.1 }

pub returns-clause-value : goal.returns-clause-value
returns-clause-value c = let l = c.loop-i in set_is _ _ _ (l.invariant.same ∙ hex_end _ _ _ c.loop-i-test.false) (omega arith)

pub returns-clause-used_in_bounds : goal.returns-clause-used_in_bounds
returns-clause-used_in_bounds c = let l = c.loop-i in set_used _ _ _ (l.invariant.same ∙ hex_end _ _ _ c.loop-i-test.false) (omega arith) l.invariant.long
