use Rattle.putlines.proofs.write_line.Goals as goal

pub returns-clause-taken : goal.returns-clause-taken
returns-clause-taken g c = g.met.S.Sink.takes_more _ _ _ _ _ _ _ _ c.write_name-to.ensures.taken c.write_row.ensures.taken
