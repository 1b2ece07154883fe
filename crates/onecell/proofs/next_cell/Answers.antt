-- `onecell::next_cell` meets its contract.
use mathlib.Core.Path.{refl}
use Rattle.text.specs.Form.{before}
use Rattle.onecell.proofs.CellLaws.{no_comma, comma_there}
use Rattle.onecell.proofs.next_cell.Goals as goal

pub returns-then-first : goal.returns-then-first
unfolding before
returns-then-first c = rw c.if-first.true (c.cell_at.ensures _ _ refl c.requires.no_newline)

pub returns-in_err-rest : goal.returns-in_err-rest
returns-in_err-rest c = rw (c.from_residual.ensures, c.if-first.false) (no_comma _ _ _ c.requires.no_newline c.in_err-rest.ensures)

pub returns : goal.returns
returns c = rw c.if-first.false (c.cell_at-2.ensures _ _ (comma_there _ _ c.in_ok-rest.ensures) c.requires.no_newline)
