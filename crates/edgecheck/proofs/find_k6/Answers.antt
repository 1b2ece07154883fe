use Rattle.std.proofs.Common.{◌<◌, ◌≤◌, refl, sym, ◌∙◌, arith}
use Rattle.pack.specs.Image.{states}
use Rattle.conditions.specs.Check.{c6, finding_of, firsts, seconds, test}
use Rattle.conditions.proofs.WalkLaws.{find_start, rows_end, one_hit, one_on}
use Rattle.edgecheck.proofs.find_k6.Goals as goal

pub loop-s-init : goal.loop-s-init
unfolding firsts seconds
loop-s-init c = find_start c6 _ refl refl

pub loop-s-preserved : goal.loop-s-preserved
unfolding test
loop-s-preserved c =
    let l : c.loop-s.s < states c.args.img.now = omega arith in
    c.loop-s.invariant ∙ one_on (test c6 _) _ _ l (sym c.k6.ensures ∙ c.if-not-k6.false)

pub returns-then-not-k6 : goal.returns-then-not-k6
unfolding test finding_of
returns-then-not-k6 c =
    let l : c.loop-s.s < states c.args.img.now = omega arith in
    sym (c.loop-s.invariant ∙ one_hit (test c6 _) _ _ l (sym c.k6.ensures ∙ c.if-not-k6.true))

pub returns : goal.returns
unfolding finding_of
returns c =
    let l : states c.args.img.now ≤ c.loop-s.s = omega arith in
    sym (c.loop-s.invariant ∙ rows_end _ _ _ _ l)
