-- `rows::Numbers::read_field` meets its contract.
use native.Mathlib.Omega.{arith}
use Rattle.text.specs.declared.Kind.TheVariants.{Number}
use Rattle.text.specs.Fields.{read_field}
use Rattle.rows.proofs.RowLaws.{no_field_there, no_byte_there, digit_put, number_put}
use Rattle.rows.proofs.NumbersFieldForm.read_field.Goals as goal

pub returns-in-Some : goal.returns-in-Some
returns-in-Some c = digit_put _ _ _ _ _ _ c.requires.room c.in-Some.ensures c.requires.no_digit

pub returns-in_err-number : goal.returns-in_err-number
unfolding read_field
returns-in_err-number c = rw c.from_residual.ensures (no_field_there Number _ _ c.in_err-number.ensures.value)

pub returns-in_err-rest : goal.returns-in_err-rest
unfolding read_field
returns-in_err-rest c = rw c.from_residual-in_err-rest.ensures (no_byte_there Number _ _ _ _ c.in_ok-number.ensures.value c.in_err-rest.ensures)

pub returns : goal.returns
returns c = number_put _ _ _ _ _ _ _ c.in_ok-rest.ensures (omega (arith, c.in_ok-number.ensures.used_in_bounds)) c.requires.room c.in_ok-number.ensures.value
