use Rattle.std.proofs.Common.{refl, sym, ◌∙◌, arith}
use Rattle.conditions.specs.Check.{test, finding_of}
use Rattle.conditions.proofs.WalkLaws.{in_row_on, in_row_hit, in_row_end, in_row_start}
use Rattle.edges.proofs.RowLaws.{made_is}
use Rattle.walkback.proofs.Laws.{walked_start}
use Rattle.backcheck.proofs.Laws as laws
use Rattle.backcheck.proofs.row5.Goals as goal

pub loop-p-init : goal.loop-p-init
loop-p-init c = record {
  most = omega arith;
  walked = walked_start _ c.requires.laid _ c.requires.s_bound (omega arith) (made_is c.args.walk.now.back 0 (omega arith) (omega arith) c.of.ensures);
  within = omega arith;
  same = in_row_start _ _ refl;
}

pub production-requires-clause-s_bound : goal.production-requires-clause-s_bound
production-requires-clause-s_bound c =
    let next = c.in-Some.ensures in
    let e = laws.reduces_by _ _ c.reductions-by.ensures next.1 next.0 in
    (c.requires.s_bound, (laws.reduced _ _ _ c.requires.good_shape c.requires.s_bound e, c.loop-p.invariant.most))

pub loop-p-preserved : goal.loop-p-preserved
unfolding test
loop-p-preserved c =
    let next = c.in-Some.ensures in
    let e = laws.reduces_by _ _ c.reductions-by.ensures next.1 next.0 in
    let m = laws.reduced _ _ _ c.requires.good_shape c.requires.s_bound e in
    let t = c.production.ensures in record {
      most = t.1.1;
      walked = t.1.0;
      within = omega arith;
      same = c.loop-p.invariant.same ∙ laws.row_past _ _ _ c.reductions-by.ensures next.1 ∙ in_row_on _ _ _ _ m (sym t.0 ∙ c.if-not-production.false);
    }

pub returns-then-not-production-clause-value : goal.returns-then-not-production-clause-value
unfolding test finding_of
returns-then-not-production-clause-value c =
    let next = c.in-Some.ensures in
    let e = laws.reduces_by _ _ c.reductions-by.ensures next.1 next.0 in
    let m = laws.reduced _ _ _ c.requires.good_shape c.requires.s_bound e in
    sym (c.loop-p.invariant.same ∙ laws.row_past _ _ _ c.reductions-by.ensures next.1 ∙ in_row_hit _ _ _ _ m (sym c.production.ensures.0 ∙ c.if-not-production.true))

pub returns-clause-value : goal.returns-clause-value
unfolding finding_of
returns-clause-value c =
    sym (c.loop-p.invariant.same ∙ laws.row_past _ _ _ c.reductions-by.ensures c.in_default.ensures ∙ in_row_end _ _ _ _ c.requires.laid.sized.p_most)
