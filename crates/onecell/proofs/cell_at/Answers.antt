-- `onecell::cell_at` meets its contract.
use native.Mathlib.Omega.{arith}
use Rattle.onecell.proofs.CellLaws.{no_number, not_rising, outside, no_colon, no_code, zero_code, cell_there, behind_comma}
use Rattle.onecell.proofs.cell_at.Goals as goal

pub returns-in_err-number : goal.returns-in_err-number
returns-in_err-number c first line e o = rw c.from_residual.ensures (no_number _ _ _ _ o _ e c.requires.1 c.in_err-number.ensures.value)

pub returns-then-column-least : goal.returns-then-column-least
returns-then-column-least c first line e o = not_rising _ _ _ _ o _ e c.requires.1 _ _ c.in_ok-number.ensures.value (omega arith)

pub returns-then-n-column : goal.returns-then-n-column
returns-then-n-column c first line e o = outside _ _ _ _ o _ e c.requires.1 _ _ c.in_ok-number.ensures.value (omega arith)

pub returns-in_err-rest : goal.returns-in_err-rest
returns-in_err-rest c first line e o =
    rw c.from_residual-in_err-rest.ensures (no_colon _ _ _ _ o _ e c.requires.1 _ _ c.in_ok-number.ensures.value c.in_err-rest.ensures)

pub returns-in_err-code : goal.returns-in_err-code
returns-in_err-code c first line e o =
    rw c.from_residual-in_err-code.ensures
    (no_code _ _ _ _ o _ e c.requires.1 _ _ c.in_ok-number.ensures.value _ c.in_ok-rest.ensures c.in_err-code.ensures.value)

pub returns-then-code-eq0 : goal.returns-then-code-eq0
returns-then-code-eq0 c first line e o =
    zero_code _ _ _ _ o _ e c.requires.1 _ _ c.in_ok-number.ensures.value _ c.in_ok-rest.ensures _ _ c.in_ok-code.ensures.value c.if-code-eq0.true

pub returns : goal.returns
returns c first line e o =
    cell_there _ _ _ _ o _ e c.requires.1 _ _ c.in_ok-number.ensures.value _ c.in_ok-rest.ensures _ _ c.in_ok-code.ensures.value c.if-code-eq0.false (omega arith) (omega arith)
    (omega (arith, behind_comma first line _ e, c.in_ok-number.ensures.used_in_bounds, c.in_ok-rest.ensures.within, c.in_ok-code.ensures.used_in_bounds))
