-- `rows::read_symbols` meets its contract.
use mathlib.Core.Path.{◌∙◌}
use native.Mathlib.Omega.{arith}
use lib.ListN.{length-set, length-drop}
use Rattle.std.proofs.lemmas.List.{length-take}
use Rattle.rows.proofs.RowLaws.{no_len, much_len, no_end, no_symbols, symbols_there, symbols_row}
use Rattle.rows.proofs.read_symbols.Goals as goal

pub returns-in_err-number : goal.returns-in_err-number
returns-in_err-number c = rw c.from_residual.ensures (no_len _ c.in_err-number.ensures.value)

pub returns-then-len-gt-MOST_SYMBOLS : goal.returns-then-len-gt-MOST_SYMBOLS
returns-then-len-gt-MOST_SYMBOLS c = much_len _ _ _ c.in_ok-number.ensures.value c.if-len-gt-MOST_SYMBOLS.true

pub returns-in_err-rest : goal.returns-in_err-rest
returns-in_err-rest c =
    rw c.from_residual-in_err-rest.ensures (no_end _ _ _ c.in_ok-number.ensures.value c.if-len-gt-MOST_SYMBOLS.false (rw c.after.ensures at c.in_err-rest.ensures))

pub returns-in_err-rest-2 : goal.returns-in_err-rest-2
returns-in_err-rest-2 c =
    rw c.from_residual-in_err-rest-2.ensures
    (no_symbols _ _ _ c.in_ok-number.ensures.value c.if-len-gt-MOST_SYMBOLS.false _ (rw c.after.ensures at c.in_ok-rest.ensures) c.in_err-rest-2.ensures)

pub returns : goal.returns
returns c =
    symbols_there _ _ _ c.in_ok-number.ensures.value c.if-len-gt-MOST_SYMBOLS.false _ (rw c.after.ensures at c.in_ok-rest.ensures) _ _ _ c.in_ok-rest-2.ensures
    (symbols_row c.args.row.now _ _ _ _ c.requires c.if-len-gt-MOST_SYMBOLS.false (omega arith) (c.read_fields.auto.row ∙ simp (length-take, length-drop, length-set) (omega arith)) c.pad.auto.img c.pad.ensures)
    (omega (arith, c.in_ok-number.ensures.used_in_bounds, c.in_ok-rest.ensures.within))
