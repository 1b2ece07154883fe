use native.Mathlib.Omega.{arith}
use Rattle.measure.proofs.Trees.{sound_less}
use Rattle.printwalk.proofs.Walks.{print_leaf_room, print_leaf_done, print_end_room, print_kids_enough, print_kids_room, print_number_room, print_begin_room, print_node_done, printing_start, printing_end, child_left, child_fewer, child_is_sound, child_room, blank_room, printing_on}
use Rattle.printwalk.proofs.+print_children_print_node.Goals as goal

pub print_children-loop-children-init : goal.print_children-loop-children-init
print_children-loop-children-init t c = printing_start _ _ _ _ c.requires.sound

pub print_children-overflow_sub-left : goal.print_children-overflow_sub-left
print_children-overflow_sub-left t c =
    let v = c.loop-children.invariant in
    omega (arith, child_left _ _ _ _ c.requires.enough_trees c.requires.room v c.loop-children-test.true, v.going.fewer)

pub print_children-print_node-c-requires : goal.print_children-print_node-c-requires
print_children-print_node-c-requires t c =
    let s = c.requires in
    let v = c.loop-children.invariant in
    let m = c.loop-children-test.true in (
      rw (← c.decreases) (omega (arith, child_left _ _ _ _ s.enough_trees s.room v m, child_fewer _ _ _ _ s.enough_trees s.room v m)),
      (
        child_is_sound _ _ _ _ s.enough_trees s.room v m,
        child_room _ _ _ _ s.enough_trees s.room v m,
      ),
    )

pub print_children-put-at-requires : goal.print_children-put-at-requires
print_children-put-at-requires t c = blank_room _ _ _ _ c.requires.enough_trees c.requires.room c.loop-children.invariant c.loop-children-test.true c.print_node-c.ensures

pub print_children-loop-children-preserved : goal.print_children-loop-children-preserved
print_children-loop-children-preserved t c =
    printing_on _ _ _ _ c.requires.enough_trees c.requires.room c.loop-children.invariant c.loop-children-test.true c.print_node-c.ensures c.put-at.ensures

pub print_children-returns : goal.print_children-returns
print_children-returns t c = printing_end _ _ _ _ c.loop-children-test.false c.loop-children.invariant

pub print_node-put_leaf-requires-clause-room : goal.print_node-put_leaf-requires-clause-room
print_node-put_leaf-requires-clause-room t c = print_leaf_room _ _ _ c.requires.sound c.requires.room c.word.ensures c.if-word-lt-FIRST_NONTERMINAL.true

pub print_node-returns-then-word-lt-FIRST_NONTERMINAL : goal.print_node-returns-then-word-lt-FIRST_NONTERMINAL
print_node-returns-then-word-lt-FIRST_NONTERMINAL t c =
    print_leaf_done _ _ _ c.requires.sound c.requires.room c.word.ensures c.if-word-lt-FIRST_NONTERMINAL.true c.put_leaf.ensures

pub print_node-put-end-requires : goal.print_node-put-end-requires
print_node-put-end-requires t c = print_end_room _ _ _ c.requires.sound c.requires.room c.word.ensures c.if-word-lt-FIRST_NONTERMINAL.false

pub print_node-print_children-c-requires : goal.print_node-print_children-c-requires
print_node-print_children-c-requires t c =
    let s = c.requires in
    let i = c.if-word-lt-FIRST_NONTERMINAL.false in (
      rw (← c.decreases) (omega arith),
      (
        sound_less _ _ _ s.sound,
        (
          print_kids_enough _ _ _ s.sound s.room c.word.ensures i c.put-end.ensures c.word-2.ensures,
          print_kids_room _ _ _ s.sound s.room c.word.ensures i c.put-end.ensures c.word-2.ensures,
        ),
      ),
    )

pub print_node-put_number-number-requires : goal.print_node-put_number-number-requires
print_node-put_number-number-requires t c =
    print_number_room _ _ _ c.requires.sound c.requires.room c.word.ensures c.if-word-lt-FIRST_NONTERMINAL.false c.put-end.ensures c.word-2.ensures
    c.print_children-c.ensures c.word-3.ensures

pub print_node-put-at-requires : goal.print_node-put-at-requires
print_node-put-at-requires t c =
    print_begin_room _ _ _ c.requires.sound c.requires.room c.word.ensures c.if-word-lt-FIRST_NONTERMINAL.false c.put-end.ensures c.word-2.ensures
    c.print_children-c.ensures c.word-3.ensures c.put_number-number.ensures

pub print_node-returns : goal.print_node-returns
print_node-returns t c =
    print_node_done _ _ _ c.requires.sound c.requires.room c.word.ensures c.if-word-lt-FIRST_NONTERMINAL.false c.put-end.ensures c.word-2.ensures
    c.print_children-c.ensures c.word-3.ensures c.put_number-number.ensures c.put-at.ensures
