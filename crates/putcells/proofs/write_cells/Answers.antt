use mathlib.Core.Path.{ap}
use native.Mathlib.Omega.{arith}
use lib.ListN.{length}
use Rattle.putcells.proofs.CellLaws.{cells_on, cells_length, cells_last}
use Rattle.putcells.proofs.write_cells.Goals as goal

pub write_cell-to-requires : goal.write_cell-to-requires
write_cell-to-requires g c =
    let l = c.loop-column in
    let w = c.word-code.ensures in
    let h = c.loop-column-test.true in
    (omega (arith, h, c.requires.0), (w.1, omega (arith, l.invariant.room, c.requires.1, cells_length l.first c.args.n l.column c.args.img.now c.args.i h w.0)))

pub loop-column-preserved : goal.loop-column-preserved
loop-column-preserved g c =
    let l = c.loop-column in
    let w = c.word-code.ensures.0 in
    let h = c.loop-column-test.true in
    let f = c.first_after-first.ensures in
    record {
      room = rw f (omega (arith, l.invariant.room, c.write_cell-to.ensures.room, cells_length l.first c.args.n l.column c.args.img.now c.args.i h w));
      taken = λ t e p. l.invariant.taken t e (rw (cells_on l.first c.args.n l.column c.args.img.now c.args.i h w, ← f) (g.met.S.Sink.takes_more _ _ _ _ _ _ _ _ c.write_cell-to.ensures.taken p));
    }

pub put-requires : goal.put-requires
put-requires g c =
    let l = c.loop-column in
    omega (arith, l.invariant.room, c.requires.1, ap length (cells_last l.first c.args.n l.column c.args.img.now c.args.i c.loop-column-test.false))

pub returns : goal.returns
returns g c =
    let l = c.loop-column in
    let last = cells_last l.first c.args.n l.column c.args.img.now c.args.i c.loop-column-test.false in
    record {
      taken = l.invariant.taken _ _ (rw last c.put.ensures.taken);
      room = omega (arith, l.invariant.room, c.put.ensures.room, ap length last);
    }
