use Rattle.std.proofs.Common.{◌<◌, ◌≤◌, refl, sym, ◌∙◌, arith}
use Rattle.pack.specs.Image.{states}
use Rattle.conditions.specs.Check.{c5, finding_of, is_fails, firsts, seconds}
use Rattle.conditions.proofs.WalkLaws.{find_start, rows_end, found_hit, found_on}
use Rattle.backcheck.proofs.find_k5.Goals as goal

pub loop-s-init : goal.loop-s-init
unfolding firsts seconds
loop-s-init c = find_start c5 _ refl refl

pub returns-in-Some : goal.returns-in-Some
unfolding finding_of is_fails
returns-in-Some c =
    let l : c.loop-s.s < states c.args.img.now = omega arith in
    sym (c.loop-s.invariant ∙ found_hit _ _ _ l _ _ c.in-Some.ensures.value refl)

pub loop-s-preserved : goal.loop-s-preserved
unfolding finding_of is_fails
loop-s-preserved c =
    let l : c.loop-s.s < states c.args.img.now = omega arith in
    c.loop-s.invariant ∙ found_on _ _ _ l _ _ c.in_default.ensures.value refl

pub returns : goal.returns
unfolding finding_of
returns c =
    let l : states c.args.img.now ≤ c.loop-s.s = omega arith in
    sym (c.loop-s.invariant ∙ rows_end _ _ _ _ l)
