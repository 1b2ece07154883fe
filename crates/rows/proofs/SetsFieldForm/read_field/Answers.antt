-- `rows::Sets::read_field` meets its contract.
use native.Mathlib.Omega.{arith}
use Rattle.text.specs.declared.Kind.TheVariants.{Set}
use Rattle.text.specs.Fields.{read_field}
use Rattle.rows.proofs.RowLaws.{no_field_there, no_byte_there, set_put}
use Rattle.rows.proofs.SetsFieldForm.read_field.Goals as goal

pub returns-in_err-set : goal.returns-in_err-set
unfolding read_field
returns-in_err-set c = rw c.from_residual.ensures (no_field_there Set _ _ c.in_err-set.ensures.value)

pub returns-in_err-rest : goal.returns-in_err-rest
unfolding read_field
returns-in_err-rest c = rw c.from_residual-in_err-rest.ensures (no_byte_there Set _ _ _ _ c.in_ok-set.ensures.value c.in_err-rest.ensures)

pub returns : goal.returns
returns c = set_put _ _ _ _ _ _ _ c.in_ok-rest.ensures (omega (arith, c.in_ok-set.ensures.used_in_bounds)) _ c.in_ok-set.ensures.value c.set_words.ensures
