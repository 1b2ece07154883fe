use Rattle.std.proofs.Common.{ℕ, ◌≡◌, ap, ◌∙◌, arith}
use Rattle.pack.specs.Image.{poss}
use Rattle.conditions.specs.Conditions.{within}
use Rattle.posscheck.proofs.Laws.{within_state}
use Rattle.posscheck.proofs.within.Goals as goal

pub returns-in-Some : goal.returns-in-Some
returns-in-Some c =
    let next = c.in-Some.ensures in
    within_state _ _ _ (λ z. omega arith) (c.poss.ensures ∙ ap (λ (p : ℕ). poss c.args.img.now p) next.1) c.poss-in-Some.ensures c.subset.ensures

pub returns-in-None : goal.returns-in-None
unfolding within
returns-in-None c = let z : c.args.code ≡ 0 = omega (arith, c.in-None.ensures) in rw z
