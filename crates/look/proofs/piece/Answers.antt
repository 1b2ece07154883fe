use mathlib.Core.Path.{refl, ◌∙◌}
use Rattle.look.proofs.Laws.{piece_spent, piece_none, piece_some}
use Rattle.look.proofs.piece.Goals as goal

pub returns-in-Ok-Some-clause-for_its_state : goal.returns-in-Ok-Some-clause-for_its_state
returns-in-Ok-Some-clause-for_its_state c = λ s v.
    let e = rw c.in-Ok-Some.field-0-is at c.in-Ok-Some.ensures in
    c.choose.ensures.value _ ∙ piece_some _ _ _ s _ v e.value refl e.some

pub returns-in-Ok-None-clause-for_its_state : goal.returns-in-Ok-None-clause-for_its_state
returns-in-Ok-None-clause-for_its_state c = λ s v.
    let e = rw c.in-Ok-None.field-0-is at c.in-Ok-None.ensures in
    c.rescan.ensures.value ∙ piece_none _ _ _ s _ v e.value refl refl

pub returns-in-Err-clause-for_its_state : goal.returns-in-Err-clause-for_its_state
returns-in-Err-clause-for_its_state c = λ s v. piece_spent _ _ _ s _ v c.in-Err.ensures.value refl
