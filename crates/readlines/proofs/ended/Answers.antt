-- `readlines::ended` meets its contract.
use mathlib.Core.Path.{sym, ◌∙◌}
use borrow.Author.Tests.{eqb-true, eqb-false}
use Rattle.readlines.proofs.LineLaws.{end_here, end_more}
use Rattle.readlines.proofs.ended.Goals as goal

pub returns-then-is_empty : goal.returns-then-is_empty
returns-then-is_empty c = end_here _ (eqb-true _ _ (sym c.is_empty.ensures ∙ c.if-is_empty.true))

pub returns : goal.returns
returns c = end_more _ (eqb-false _ _ (sym c.is_empty.ensures ∙ c.if-is_empty.false))
