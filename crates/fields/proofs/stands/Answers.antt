-- `fields::stands` meets its contract.
use Rattle.fields.proofs.PartLaws.{stands_other, stands_here}
use Rattle.fields.proofs.stands.Goals as goal

pub returns-then-first-next : goal.returns-then-first-next
returns-then-first-next c = stands_here _ _ _ _ c.in-Some.ensures.cases.0 c.if-first-next.true

pub returns-else-first-next : goal.returns-else-first-next
returns-else-first-next c = stands_other _ _ _ _ c.in-Some.ensures.cases.0 c.if-first-next.false
