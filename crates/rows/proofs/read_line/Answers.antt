-- `rows::read_line` meets its contract.
use Rattle.fields.proofs.PartLaws.{matched, then_wrong, then_later, then_reads}
use Rattle.rows.proofs.read_line.Goals as goal

pub returns-in_err-rest : goal.returns-in_err-rest
returns-in_err-rest c = rw c.from_residual.ensures (then_wrong _ c.in_err-rest.ensures)

pub returns : goal.returns
returns c = let p = c.in_ok-rest.ensures in matched _ c.read_row.ensures (then_later p) (λ r q. then_reads p q)
