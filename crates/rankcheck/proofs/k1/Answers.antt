use Rattle.std.proofs.Common.{ℕ, sym, ap₂, arith, bit_or, below_more}
use Rattle.conditions.proofs.TestLaws.{all_true, all_false}
use Rattle.conditions.specs.Conditions.{k1}
use Rattle.rankcheck.proofs.Laws.{k1_alike, k1_apart, k1_past}
use Rattle.rankcheck.proofs.k1.Goals as goal

pub returns-then-member-outranked : goal.returns-then-member-outranked
unfolding k1
returns-then-member-outranked c =
    let m = ap₂ (λ (x y : ℕ). bit_or x y) c.acc.ensures c.rej-rej.ensures in
    sym (all_false _ _ c.in-Some.t (omega arith) (k1_apart _ _ _ c.rej-rej.ensures m c.member.ensures c.outranked.ensures c.if-member-outranked.true))

pub loop-t-preserved : goal.loop-t-preserved
loop-t-preserved c =
    let m = ap₂ (λ (x y : ℕ). bit_or x y) c.acc.ensures c.rej-rej.ensures in
    let next = c.in-Some.ensures in record {
      within = omega arith;
      below = below_more _ _ (k1_past _ _ m next.1 c.loop-t.invariant.below) (k1_alike _ _ _ c.rej-rej.ensures m c.member.ensures c.outranked.ensures c.if-member-outranked.false);
    }

pub returns-then-n-t : goal.returns-then-n-t
unfolding k1
returns-then-n-t c =
    let m = ap₂ (λ (x y : ℕ). bit_or x y) c.acc.ensures c.rej-rej.ensures in
    sym (all_true _ _ (λ i l. k1_past _ _ m c.in-Some.ensures.1 c.loop-t.invariant.below i (omega arith)))

pub returns-in_default : goal.returns-in_default
unfolding k1
returns-in_default c =
    let m = ap₂ (λ (x y : ℕ). bit_or x y) c.acc.ensures c.rej-rej.ensures in
    sym (all_true _ _ (λ i l. k1_past _ _ m c.in_default.ensures c.loop-t.invariant.below i (omega (arith, c.requires.laid.sized.t_most))))
