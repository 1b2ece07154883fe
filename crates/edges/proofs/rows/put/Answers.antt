use Rattle.edges.proofs.rows.put.Goals as goal

pub returns : goal.returns
returns c = c.put_one.ensures _ c.of.ensures
