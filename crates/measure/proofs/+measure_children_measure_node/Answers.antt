use mathlib.Core.Path.{refl}
use native.Mathlib.Omega.{arith}
use Rattle.std.proofs.lemmas.Result.{err_from_is_err_and}
use Rattle.measure.proofs.Trees.{sound_less, node_enough}
use Rattle.measure.proofs.Measures.{measure_leaf, measure_over, measure_done, measuring_start, measuring_end, kid_left, kid_fewer, kid_sound, measuring_deep, measuring_on}
use Rattle.measure.proofs.+measure_children_measure_node.Goals as goal

pub measure_children-loop-children-init : goal.measure_children-loop-children-init
measure_children-loop-children-init t c = measuring_start _ _ _ _ _ _ c.requires.sound (omega arith)

pub measure_children-overflow_sub-left : goal.measure_children-overflow_sub-left
measure_children-overflow_sub-left t c = kid_left _ _ _ _ _ _ c.requires.enough_trees c.loop-children.invariant c.loop-children-test.true

pub measure_children-measure_node-requires : goal.measure_children-measure_node-requires
measure_children-measure_node-requires t c =
    let v = c.loop-children.invariant in
    let m = c.loop-children-test.true in (
      rw (← c.decreases) (omega (arith, kid_left _ _ _ _ _ _ c.requires.enough_trees v m, kid_fewer _ _ _ _ _ _ c.requires.enough_trees v m)),
      kid_sound _ _ _ _ _ _ c.requires.enough_trees v m,
    )

pub measure_children-returns-in_err-m : goal.measure_children-returns-in_err-m
measure_children-returns-in_err-m t c =
    let p = err_from_is_err_and c.from_residual.result c.from_residual.ensures.1 in
    rw p.1 (measuring_deep _ _ _ _ _ _ c.requires.enough_trees c.loop-children.invariant c.loop-children-test.true c.in_err-m.ensures refl)

pub measure_children-loop-children-preserved : goal.measure_children-loop-children-preserved
measure_children-loop-children-preserved t c =
    measuring_on _ _ _ _ _ _ c.requires.enough_trees c.loop-children.invariant c.loop-children-test.true c.in_ok-m.ensures refl c.plus-total.ensures

pub measure_children-returns : goal.measure_children-returns
measure_children-returns t c = measuring_end _ _ _ _ _ _ c.loop-children-test.false c.loop-children.invariant

pub measure_node-returns-then-word-lt-FIRST_NONTERMINAL : goal.measure_node-returns-then-word-lt-FIRST_NONTERMINAL
measure_node-returns-then-word-lt-FIRST_NONTERMINAL t c = measure_leaf _ _ _ _ _ c.requires c.word.ensures c.if-word-lt-FIRST_NONTERMINAL.true c.with_leaf.ensures

pub measure_node-returns-then-levels-eq0 : goal.measure_node-returns-then-levels-eq0
measure_node-returns-then-levels-eq0 t c = measure_over _ _ _ _ _ c.requires c.word.ensures c.if-word-lt-FIRST_NONTERMINAL.false c.if-levels-eq0.true

pub measure_node-measure_children-requires : goal.measure_node-measure_children-requires
measure_node-measure_children-requires t c = (
  rw (← c.decreases) (omega arith),
  (
    sound_less _ _ _ c.requires,
    rw c.word-3.ensures (node_enough _ _ _ c.requires (rw c.word.ensures at c.if-word-lt-FIRST_NONTERMINAL.false)),
  ),
)

pub measure_node-returns : goal.measure_node-returns
measure_node-returns t c =
    measure_done _ _ _ _ _ c.requires c.word.ensures c.if-word-lt-FIRST_NONTERMINAL.false c.word-2.ensures c.word-3.ensures c.with_number.ensures c.plus-head.ensures
    c.if-levels-eq0.false c.measure_children.ensures
