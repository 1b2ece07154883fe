use Rattle.putfields.specs.Writes.{wrote_none}
use Rattle.putfields.proofs.FieldLaws.{lead_none, lead_some}
use Rattle.putfields.proofs.sinks.put_lead.Goals as goal

pub returns-then-q-eq0 : goal.returns-then-q-eq0
returns-then-q-eq0 c = rw (lead_none _ c.if-q-eq0.true) (wrote_none _ _)

pub returns : goal.returns
returns c = rw (lead_some _ c.if-q-eq0.false, ← c.digit_byte.ensures) c.put.ensures.taken
