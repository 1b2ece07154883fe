use Prim.Native.Nat.{◌+◌, ◌*◌}
use Rattle.measure.proofs.Measures.{Measuring}
use Rattle.measure.proofs.+measure_children_measure_node.Given as goal

abbrev pub decreases-measure_children : goal.decreases-measure_children
decreases-measure_children l = l.n * 2

abbrev pub decreases-measure_node : goal.decreases-measure_node
decreases-measure_node l = l.n * 2 + 1

abbrev pub invariant-measure_children-loop-children : goal.invariant-measure_children-loop-children
invariant-measure_children-loop-children l = Measuring l.text l.tree l.n l.k l.levels l.size l.left l.total l._children
