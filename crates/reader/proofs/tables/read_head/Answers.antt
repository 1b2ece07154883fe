-- `reader::tables::read_head` meets its contract.
use mathlib.Core.Path.{sym, ◌∙◌}
use native.Mathlib.Omega.{arith}
use lib.ListN.{length-set, length-drop}
use Rattle.std.proofs.lemmas.List.{length-take}
use Rattle.numbers.proofs.Laws.{err_is_wrong}
use Rattle.text.specs.Form.{sizes, row_width}
use Rattle.reader.proofs.TableLaws.{head_wrong, size_wrong, limits_broken, limits_kept, head_row}
use Rattle.reader.proofs.tables.read_head.Goals as goal

pub returns-in_default : goal.returns-in_default
returns-in_default c = (head_wrong _ _ c.in_default.ensures, omega arith)

pub read_line-requires-clause-whole : goal.read_line-requires-clause-whole
unfolding row_width
read_line-requires-clause-whole c = simp (length-take, length-drop, length-set) (omega arith)

pub read_line-requires-clause-in_bounds : goal.read_line-requires-clause-in_bounds
unfolding row_width
read_line-requires-clause-in_bounds c = omega arith

pub returns-in_default-read_line : goal.returns-in_default-read_line
unfolding sizes row_width
returns-in_default-read_line c = (size_wrong _ _ _ c.in-Some.ensures c.in_default-read_line.ensures, c.in-Some.ensures.within)

pub returns-then-is_err : goal.returns-then-is_err
unfolding sizes row_width
returns-then-is_err c =
    let e = head_row c.args.head.now c.read_line.new.row c.requires c.read_line.auto.row in
    (limits_broken _ _ _ c.in-Some.ensures _ _ _ c.in-Some-read_line.ensures e _ c.sizes.ensures (err_is_wrong _ ∙ sym c.is_err.ensures.value ∙ c.if-is_err.true), c.in-Some.ensures.within)

pub returns : goal.returns
unfolding sizes row_width
returns c =
    let e = head_row c.args.head.now c.read_line.new.row c.requires c.read_line.auto.row in
    (limits_kept _ _ _ c.in-Some.ensures _ _ _ c.in-Some-read_line.ensures e _ c.sizes.ensures (err_is_wrong _ ∙ sym c.is_err.ensures.value ∙ c.if-is_err.false), omega (arith, c.in-Some.ensures.within, c.in-Some-read_line.ensures.within))
