-- `hexset::four` meets its contract.
use native.Mathlib.Omega.{arith}
use Rattle.hexset.proofs.HexLaws.{four_zeros, no_first, no_second, no_third, no_fourth, all_four}
use Rattle.hexset.proofs.four.Goals as goal

pub returns-then-join-eq-FOUR_ZEROS : goal.returns-then-join-eq-FOUR_ZEROS
returns-then-join-eq-FOUR_ZEROS c =
    let j = c.join.ensures in
    let f = c.ranges in
    let z = c.if-join-eq-FOUR_ZEROS.true in
    four_zeros _ _ _ _ (omega (arith, j, z, f)) (omega (arith, j, z, f)) (omega (arith, j, z, f)) (omega (arith, j, z, f))

pub returns-in_err-i : goal.returns-in_err-i
returns-in_err-i c = rw c.from_residual.ensures (no_first _ _ _ _ c.in_err-i.ensures.value)

pub returns-in_err-j : goal.returns-in_err-j
returns-in_err-j c = rw c.from_residual-in_err-j.ensures (no_second _ _ _ _ _ c.in_ok-i.ensures.value c.in_err-j.ensures.value)

pub returns-in_err-k : goal.returns-in_err-k
returns-in_err-k c = rw c.from_residual-in_err-k.ensures (no_third _ _ _ _ _ c.in_ok-i.ensures.value _ c.in_ok-j.ensures.value c.in_err-k.ensures.value)

pub returns-in_err-l : goal.returns-in_err-l
returns-in_err-l c = rw c.from_residual-in_err-l.ensures (no_fourth _ _ _ _ _ c.in_ok-i.ensures.value _ c.in_ok-j.ensures.value _ c.in_ok-k.ensures.value c.in_err-l.ensures.value)

pub returns : goal.returns
returns c = all_four _ _ _ _ _ c.in_ok-i.ensures.value _ c.in_ok-j.ensures.value _ c.in_ok-k.ensures.value _ c.in_ok-l.ensures.value
