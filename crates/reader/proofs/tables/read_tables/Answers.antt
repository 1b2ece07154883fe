-- `reader::tables::read_tables` meets its contract.
use mathlib.Core.Path.{sym, ◌∙◌}
use Prim.Native.Nat.{◌+◌, ◌*◌}
use native.Mathlib.Omega.{arith}
use borrow.Rule.Slice.PartMut.{same_len_mid}
use lib.Seq.{take_all}
use Rattle.std.proofs.lemmas.Result.{err_from_is_err_and}
use Rattle.text.proofs.Tables.{row_fits, words_on, tables_fit}
use Rattle.reader.proofs.TableLaws.{tables_done, tables_wrong, table_on, table_room, table_put, tables_full}
use Rattle.reader.proofs.tables.read_tables.Goals as goal

pub row_width-requires : goal.row_width-requires
row_width-requires c = rw c.row_of.ensures (omega (arith, row_fits c.args.form c.args.head.now c.requires.sized c.loop-i.i))

pub overflow_mul-next : goal.overflow_mul-next
overflow_mul-next c =
    let l = c.loop-i in
    let r = table_room c.args.form c.args.head.now l.i l.words _ _ _ l.tables c.requires.sized c.loop-i-test.true l.invariant.fits (l.auto.tables ∙ c.requires.whole) (c.lines_of.ensures c.args.form) c.row_of.ensures c.row_width.ensures in
    omega (arith, r.1)

pub overflow_add-next : goal.overflow_add-next
overflow_add-next c =
    let l = c.loop-i in
    let r = table_room c.args.form c.args.head.now l.i l.words _ _ _ l.tables c.requires.sized c.loop-i-test.true l.invariant.fits (l.auto.tables ∙ c.requires.whole) (c.lines_of.ensures c.args.form) c.row_of.ensures c.row_width.ensures in
    omega (arith, r.0, c.requires.whole, l.auto.tables, tables_fit c.args.form c.args.head.now c.requires.sized)

pub slice_bounds-read_table-end : goal.slice_bounds-read_table-end
slice_bounds-read_table-end c =
    let l = c.loop-i in
    let r = table_room c.args.form c.args.head.now l.i l.words _ _ _ l.tables c.requires.sized c.loop-i-test.true l.invariant.fits (l.auto.tables ∙ c.requires.whole) (c.lines_of.ensures c.args.form) c.row_of.ensures c.row_width.ensures in
    omega (arith, r.0)

pub read_table-requires-clause-in_bounds : goal.read_table-requires-clause-in_bounds
read_table-requires-clause-in_bounds c =
    let l = c.loop-i in
    omega (arith, words_on c.args.form c.args.head.now l.i c.loop-i-test.true, l.invariant.fits, l.auto.tables, c.requires.whole, tables_fit c.args.form c.args.head.now c.requires.sized)

pub returns-in_err-left : goal.returns-in_err-left
returns-in_err-left c =
    let l = c.loop-i in
    let p = err_from_is_err_and c.from_residual.result c.from_residual.ensures.1 in
    rw (p.1, p.2) (tables_wrong _ _ _ _ _ l.i l.invariant.same c.loop-i-test.true _ l.invariant.within c.in_err-left.ensures)

pub loop-i-preserved : goal.loop-i-preserved
loop-i-preserved c =
    let l = c.loop-i in
    let r = table_room c.args.form c.args.head.now l.i l.words _ _ _ l.tables c.requires.sized c.loop-i-test.true l.invariant.fits (l.auto.tables ∙ c.requires.whole) (c.lines_of.ensures c.args.form) c.row_of.ensures c.row_width.ensures in
    record {
      fits = r.0 ∙ sym (same_len_mid _ _ l.tables _ c.read_table.auto.table);
      within = omega (arith, l.invariant.within, c.in_ok-left.ensures.within);
      same = table_on _ _ _ _ _ l.i l.invariant.same c.loop-i-test.true _ _ _ c.in_ok-left.ensures (table_put l.words (l.words + c.lines_of.result * c.row_width.result) l.tables _ (omega arith) (omega (arith, r.0)) c.read_table.auto.table);
    }

pub returns : goal.returns
returns c =
    let l = c.loop-i in
    tables_done _ _ _ _ _ l.i l.invariant.same _ c.loop-i-test.false (take_all _ _ (tables_full _ _ l.i l.words l.tables c.loop-i-test.false l.invariant.fits)) l.invariant.within
