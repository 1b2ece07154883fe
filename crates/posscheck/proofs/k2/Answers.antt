use Rattle.std.proofs.Common.{ℕ, ap₂, bit_or, arith}
use Rattle.shape.proofs.Good.{good_move}
use Rattle.posscheck.proofs.Laws.{move_test, k2_out, k2_fails, k2_holds}
use Rattle.posscheck.proofs.k2.Goals as goal

pub returns-then-not-subset : goal.returns-then-not-subset
returns-then-not-subset c =
    k2_out _ _ (ap₂ (λ (x y : ℕ). bit_or x y) c.acc.ensures c.rej.ensures) c.poss.ensures c.subset.ensures c.if-not-subset.true

pub within-requires : goal.within-requires
within-requires c =
    record { laid = c.requires.laid; q_bound = (c.requires.q_bound, rw c.move_of.ensures (good_move _ c.requires.good_shape _ _ c.requires.q_bound (omega arith))) }

pub returns-then-not-within : goal.returns-then-not-within
returns-then-not-within c =
    k2_fails _ _ (ap₂ (λ (x y : ℕ). bit_or x y) c.acc.ensures c.rej.ensures) c.poss.ensures c.subset.ensures {c = c.loop-c.c} c.if-not-subset.false (omega arith)
    (move_test _ _ _ c.move_of.ensures c.within.ensures c.if-not-within.true)

pub returns : goal.returns
returns c =
    k2_holds _ _ (ap₂ (λ (x y : ℕ). bit_or x y) c.acc.ensures c.rej.ensures) c.poss.ensures c.subset.ensures c.if-not-subset.false (λ j l. c.loop-c.invariant j (omega arith))
