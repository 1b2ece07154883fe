use Rattle.std.proofs.Common.{sym, ◌∙◌, arith, eq-eqb}
use Rattle.conditions.proofs.TestLaws.{some_true, some_false}
use Rattle.conditions.specs.Conditions.{is_group}
use Rattle.groupcheck.proofs.is_group.Goals as goal

pub returns-then-group_set-set : goal.returns-then-group_set-set
unfolding is_group
returns-then-group_set-set c =
    sym (some_true _ _ c.loop-g.g (omega arith) (eq-eqb _ _ (sym c.group_set.ensures ∙ c.if-group_set-set.true)))

pub returns : goal.returns
unfolding is_group
returns c = sym (some_false _ _ (λ i l. c.loop-g.invariant i (omega arith)))
