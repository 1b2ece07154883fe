use Rattle.edges.specs.Rows.{Whole}
use Rattle.edges.proofs.TableLaws.{reduces_below}
use Rattle.edges.proofs.reductions.Given as goal

abbrev pub invariant-loop-t : goal.invariant-loop-t
invariant-loop-t l = Whole (reduces_below l.img l.s l.t) l.by
