use Rattle.edges.proofs.TableLaws.{no_sources, none_carried, no_goers}
use Rattle.checker.proofs.parser_conditions.Goals as goal

pub fill-requires : goal.fill-requires
fill-requires c =
    record { laid = c.requires.laid; good_shape = c.requires.good_shape; edge_tables = (no_sources _, (none_carried _, no_goers _ c.requires.laid.sized.n_most)) }
