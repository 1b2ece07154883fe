-- `rows::read_group` meets its contract.
use native.Mathlib.Omega.{arith}
use lib.Seq.{take_all}
use Rattle.fields.proofs.PartLaws.{matched}
use Rattle.rows.proofs.RowLaws.{no_set, no_choice, group_there}
use Rattle.rows.proofs.read_group.Goals as goal

pub returns-in_err-rest : goal.returns-in_err-rest
returns-in_err-rest c = rw c.from_residual.ensures (no_set _ c.in_err-rest.ensures)

pub returns : goal.returns
returns c =
    let p = c.in_ok-rest.ensures in
    matched _ c.read_field-2.ensures (no_choice _ _ _ p) (λ r q. group_there _ _ _ p _ _ _ (take_all 5 c.read_field-2.new.row (omega arith)) q)
