use native.Mathlib.Omega.{arith}
use Rattle.putcells.proofs.CellLaws.{comma_none, comma_some}
use Rattle.putcells.proofs.write_comma.Goals as goal

pub returns-then-first : goal.returns-then-first
returns-then-first g c = rw (comma_none _ c.if-first.true) (record { taken = g.met.S.Sink.takes_none _ _; room = omega arith })

pub returns-clause-taken : goal.returns-clause-taken
returns-clause-taken g c = rw (comma_some _ c.if-first.false) c.put.ensures.taken
