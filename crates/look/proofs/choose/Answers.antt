use Rattle.look.proofs.Laws.{choose_none, choose_some}
use Rattle.look.proofs.choose.Goals as goal

pub returns-in-Some-clause-value : goal.returns-in-Some-clause-value
returns-in-Some-clause-value c = λ at. choose_some _ _ _ _ at c.in-Some.ensures.value

pub returns-in-None-clause-value : goal.returns-in-None-clause-value
returns-in-None-clause-value c = λ at. choose_none _ _ _ at c.in-None.ensures.value
