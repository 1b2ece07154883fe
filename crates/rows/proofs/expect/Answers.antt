-- `rows::expect` meets its contract.
use mathlib.Core.Path.{sym, ◌∙◌}
use Rattle.rows.proofs.RowLaws.{name_there, name_not}
use Rattle.rows.proofs.expect.Goals as goal

pub returns-then-starts_with : goal.returns-then-starts_with
returns-then-starts_with c = name_there _ _ (sym c.starts_with.ensures.value ∙ c.if-starts_with.true)

pub returns-else-starts_with : goal.returns-else-starts_with
returns-else-starts_with c = name_not _ _ (sym c.starts_with.ensures.value ∙ c.if-starts_with.false)
