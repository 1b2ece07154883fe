use Rattle.edges.proofs.TableLaws.{sources_more, carried_more, goers_more}
use Rattle.edges.proofs.fill.Goals as goal

pub loop-s-preserved : goal.loop-s-preserved
loop-s-preserved c =
    let v = c.loop-s.invariant in
    record {
      sources = sources_more _ v.sources c.put_edges.ensures.0;
      carried = carried_more _ c.requires.good_shape v.carried c.put_edges.ensures.1;
      goers = goers_more _ c.requires.laid.sized.n_most v.goers c.put_gotos.ensures;
    }
