use Rattle.std.proofs.Common.{◌+◌, ◌<◌, ◌≤◌, length, arith}
use Rattle.std.proofs.lemmas.Grind.{get_or_default_zero}
use Rattle.edges.specs.Rows.{cell_of}
use Rattle.edges.proofs.RowLaws.{put_none, put_one}
use Rattle.edges.proofs.rows.put_one.Goals as goal

pub returns-in-Some : goal.returns-in-Some
unfolding cell_of
returns-in-Some c = λ b w.
    let r : 1 + c.in-Some.v ≤ 128 = rw c.in-Some.is at c.requires in
    let l : c.in-Some.v < length c.args.row.now = omega arith in
    rw (c.in-Some.is, c.bitor.ensures, get_or_default_zero c.args.row.now c.in-Some.v c.index-row-v.result l) (put_one _ _ _ _ l w)

pub returns-in_default : goal.returns-in_default
unfolding cell_of
returns-in_default c = λ b w. rw c.in_default.is (put_none _ _)
