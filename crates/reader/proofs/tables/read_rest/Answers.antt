-- `reader::tables::read_rest` meets its contract.
use Rattle.std.proofs.lemmas.Result.{err_from_is_err_and}
use Rattle.reader.proofs.TableLaws.{told, tables_whole, head_then, image_long, rest_wrong, rest_more, rest_done}
use Rattle.reader.proofs.tables.read_rest.Goals as goal

pub read_tables-requires-clause-whole : goal.read_tables-requires-clause-whole
read_tables-requires-clause-whole c = tables_whole _ _ c.args.img.now c.copy_from_slice.ensures.after c.requires.nine c.args.form c.requires.whole

pub returns-in_err-left : goal.returns-in_err-left
returns-in_err-left c =
    let p = err_from_is_err_and c.from_residual.result c.from_residual.ensures.1 in
    rw (p.1, p.2) (rest_wrong _ _ _ _ c.in_err-left.ensures)

pub returns : goal.returns
returns c =
    let e = head_then _ _ c.args.img.now c.copy_from_slice.ensures.after c.requires.nine c.read_tables.new.tables (image_long c.args.form c.args.head.now c.args.img.now c.requires.whole) c.read_tables.auto.tables in
    told _ c.ended.ensures (λ x p. rest_done _ _ _ _ _ c.in_ok-left.ensures _ p e) (λ x p. rest_more _ _ _ _ _ c.in_ok-left.ensures _ p)
