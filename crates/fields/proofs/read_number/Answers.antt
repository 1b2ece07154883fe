-- `fields::read_number` meets its contract.
use mathlib.Core.Path.{sym, ◌∙◌}
use native.Mathlib.Omega.{arith}
use lib.ListN.{length-drop}
use Rattle.fields.proofs.FieldLaws.{rest_is, number_none, number_much, number_zero, number_is, number_some}
use Rattle.fields.proofs.read_number.Goals as goal

pub returns-then-used-eq0-clause-value : goal.returns-then-used-eq0-clause-value
returns-then-used-eq0-clause-value c = number_none _ _ _ _ c.digits-value.ensures.value c.if-used-eq0.true

pub returns-then-from-value-clause-value : goal.returns-then-from-value-clause-value
returns-then-from-value-clause-value c = number_much _ _ _ _ c.digits-value.ensures.value (omega arith)

pub returns-then-leading_zero-clause-value : goal.returns-then-leading_zero-clause-value
returns-then-leading_zero-clause-value c = number_zero _ _ _ _ c.digits-value.ensures.value (sym c.leading_zero.ensures ∙ c.if-leading_zero.true)

pub returns-clause-value : goal.returns-clause-value
returns-clause-value c =
    number_some _ _ _ _ c.digits-value.ensures.value c.if-used-eq0.false (omega arith) (sym c.leading_zero.ensures ∙ c.if-leading_zero.false)

pub returns-clause-used_in_bounds : goal.returns-clause-used_in_bounds
returns-clause-used_in_bounds c =
    rw (number_is _ _ _ _ c.digits-value.ensures.value (omega arith) (sym c.leading_zero.ensures ∙ c.if-leading_zero.false), rest_is, length-drop) (omega arith)
