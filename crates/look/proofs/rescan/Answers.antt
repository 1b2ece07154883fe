use mathlib.Core.Path.{refl, ap₂, ◌∙◌}
use Rattle.sets.specs.Sets.{less}
use Rattle.look.proofs.Laws.{rescan_spent, rescan_none, rescan_some}
use Rattle.look.proofs.rescan.Goals as goal

pub returns-in-Ok-Some-clause-value : goal.returns-in-Ok-Some-clause-value
returns-in-Ok-Some-clause-value c =
    let v = c.less-others.ensures ∙ ap₂ less c.all_but_end.ensures c.layout.ensures in
    let e = rw c.in-Ok-Some.field-0-is at c.in-Ok-Some.ensures in
    rescan_some _ _ _ _ v e.value refl e.some c.least-terminal.ensures.0

pub returns-in-Ok-None-clause-value : goal.returns-in-Ok-None-clause-value
returns-in-Ok-None-clause-value c =
    let v = c.less-others.ensures ∙ ap₂ less c.all_but_end.ensures c.layout.ensures in
    let e = rw c.in-Ok-None.field-0-is at c.in-Ok-None.ensures in
    rescan_none _ _ _ _ v e.value refl refl

pub returns-in-Err-clause-value : goal.returns-in-Err-clause-value
returns-in-Err-clause-value c =
    let v = c.less-others.ensures ∙ ap₂ less c.all_but_end.ensures c.layout.ensures in rescan_spent _ _ _ _ v c.in-Err.ensures.value refl
