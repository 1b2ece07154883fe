use mathlib.Core.Path.{ap}
use native.Mathlib.Omega.{arith}
use lib.ListN.{length}
use Rattle.text.specs.Fields.{width_of}
use Rattle.putfields.proofs.FieldLaws.{fields_on, fields_length, fields_none, one_more}
use Rattle.putfields.proofs.write_fields.Goals as goal

pub write_field-to-requires : goal.write_field-to-requires
write_field-to-requires g c =
    let l = c.loop-left in
    (omega (arith, l.invariant.place, c.requires.0), omega (arith, l.invariant.room, c.requires.1, fields_length c.args.kind l.left c.args.end c.args.img.now l.from c.loop-left-test.true))

pub put-to-requires : goal.put-to-requires
put-to-requires g c =
    let l = c.loop-left in
    omega (arith, l.invariant.room, c.requires.1, c.write_field-to.ensures.room, fields_length c.args.kind l.left c.args.end c.args.img.now l.from c.loop-left-test.true)

pub loop-left-preserved : goal.loop-left-preserved
loop-left-preserved g c =
    let l = c.loop-left in
    let z = c.loop-left-test.true in
    let w = c.width-from.ensures in
    let more = g.met.S.Sink.takes_more in
    record {
      place = omega (arith, l.invariant.place, w, one_more l.left (width_of c.args.kind) z);
      room = rw w (omega (arith, l.invariant.room, c.write_field-to.ensures.room, c.put-to.ensures.room, fields_length c.args.kind l.left c.args.end c.args.img.now l.from z));
      taken = λ t e p. l.invariant.taken t e (rw (fields_on c.args.kind l.left c.args.end c.args.img.now l.from z, ← c.after.ensures, ← w) (more _ _ _ _ _ _ _ _ c.write_field-to.ensures.taken (more _ _ _ _ _ _ _ _ c.put-to.ensures.taken p)));
    }

pub returns : goal.returns
returns g c =
    let l = c.loop-left in
    let none = fields_none c.args.kind l.left c.args.end c.args.img.now l.from c.loop-left-test.false in
    record { taken = l.invariant.taken _ _ (rw none (g.met.S.Sink.takes_none _ _)); room = omega (arith, l.invariant.room, ap length none) }
