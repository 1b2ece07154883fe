use Rattle.std.proofs.Common.{sym, ◌∙◌}
use Rattle.conditions.proofs.WalkLaws.{first_hit, first_on, first_end}
use Rattle.conditions.proofs.first_wrong.Goals as goal

pub returns-then-not-test : goal.returns-then-not-test
returns-then-not-test g c =
    sym (first_hit g.right _ _ c.loop-i-test.true (sym (c.requires.1.1 _ _ c.loop-i-test.true c.test.ensures) ∙ c.if-not-test.true)) ∙ c.loop-i.invariant

pub loop-i-preserved : goal.loop-i-preserved
loop-i-preserved g c =
    sym (first_on g.right _ _ c.loop-i-test.true (sym (c.requires.1.1 _ _ c.loop-i-test.true c.test.ensures) ∙ c.if-not-test.false)) ∙ c.loop-i.invariant

pub returns : goal.returns
returns g c = sym (first_end g.right _ _ c.loop-i-test.false) ∙ c.loop-i.invariant
