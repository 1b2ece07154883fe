use Rattle.std.proofs.Common.{ℕ, List}
use Rattle.conditions.specs.Edges.{edge_to}
use Rattle.edges.specs.Rows.{PutOne, PutEach}
use Rattle.edges.proofs.put_edges.Given as goal

abbrev pub invariant-shifts : goal.invariant-shifts
invariant-shifts l = record {
  sources : PutOne (edge_to l.img l.s) l.s l.t l.initial.from l.from;
  carried : PutEach (edge_to l.img l.s) l.t l.initial.on l.on;
}

abbrev pub invariant-gotos : goal.invariant-gotos
invariant-gotos l = record {
  sources : (row : List ℕ) → PutOne (edge_to l.img l.s) l.s 64 row l.initial.from → PutOne (edge_to l.img l.s) l.s l.x row l.from;
  carried : (row : List ℕ) → PutEach (edge_to l.img l.s) 64 row l.initial.on → PutEach (edge_to l.img l.s) l.x row l.on;
}
