use Prim.Native.Nat.{◌+◌, ◌*◌}
use Rattle.printwalk.proofs.Walks.{Printing}
use Rattle.printwalk.proofs.+print_children_print_node.Given as goal

abbrev pub decreases-print_children : goal.decreases-print_children
decreases-print_children l = l.n * 2

abbrev pub decreases-print_node : goal.decreases-print_node
decreases-print_node l = l.n * 2 + 1

abbrev pub invariant-print_children-loop-children : goal.invariant-print_children-loop-children
invariant-print_children-loop-children l = Printing l.text l.tree l.n l.k l.initial.out l.to l.out l.left l.at l._children
