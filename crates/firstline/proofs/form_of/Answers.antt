-- `firstline::form_of` meets its contract.
use Rattle.firstline.proofs.FormLaws.{form_one, form_two}
use Rattle.firstline.proofs.form_of.Goals as goal

pub returns-in-None : goal.returns-in-None
returns-in-None c = form_one _ c.in-None.ensures

pub returns-in-Some : goal.returns-in-Some
returns-in-Some c = form_two _ _ c.in-Some.ensures
