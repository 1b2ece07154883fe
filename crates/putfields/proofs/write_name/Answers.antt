use native.Mathlib.Omega.{arith}
use lib.Seq.{take_all}
use Rattle.putfields.proofs.FieldLaws.{name_on}
use Rattle.putfields.proofs.write_name.Goals as goal

pub loop-i-init : goal.loop-i-init
loop-i-init g c = record { within = omega arith; room = omega arith; taken = g.met.S.Sink.takes_none _ _ }

pub loop-i-preserved : goal.loop-i-preserved
loop-i-preserved g c = record {
  within = omega arith;
  room = omega (arith, c.put-to.ensures.room, c.loop-i.invariant.room);
  taken = rw (name_on c.args.name.now c.loop-i.i c.if-name-i.false) (g.met.S.Sink.takes_more _ _ _ _ _ _ _ _ c.loop-i.invariant.taken c.put-to.ensures.taken);
}

pub returns-then-name-i-clause-taken : goal.returns-then-name-i-clause-taken
returns-then-name-i-clause-taken g c = rw (take_all c.loop-i.i c.args.name.now c.if-name-i.true) at c.loop-i.invariant.taken

pub returns-clause-taken : goal.returns-clause-taken
returns-clause-taken g c = rw (take_all c.loop-i.i c.args.name.now (omega (arith, c.requires.0, c.loop-i-test.false))) at c.loop-i.invariant.taken
