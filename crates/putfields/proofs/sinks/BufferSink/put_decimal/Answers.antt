use Rattle.text.proofs.Decimal.{decimal_one}
use Rattle.putfields.specs.Writes.{wrote_two}
use Rattle.putfields.proofs.FieldLaws.{decimal_five}
use Rattle.putfields.proofs.sinks.BufferSink.put_decimal.Goals as goal

pub returns-then-n-lt10-clause-taken : goal.returns-then-n-lt10-clause-taken
returns-then-n-lt10-clause-taken c = rw (decimal_one _ c.if-n-lt10.true, ← c.digit_byte.ensures) c.put.ensures.taken

pub returns-clause-taken : goal.returns-clause-taken
returns-clause-taken c =
    rw (decimal_five c.args.n c.requires.0, ← c.digit_byte-2.ensures)
    (wrote_two _ _ (wrote_two _ _ (wrote_two _ _ (wrote_two _ _ c.put_lead-a.ensures c.put_lead-b.ensures) c.put_lead-c.ensures) c.put_lead-d.ensures) c.put-2.ensures.taken)
