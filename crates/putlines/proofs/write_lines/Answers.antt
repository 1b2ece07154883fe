use mathlib.Core.Path.{ap}
use native.Mathlib.Omega.{arith}
use lib.ListN.{length}
use Rattle.text.specs.Form.{row_width}
use Rattle.putfields.proofs.FieldLaws.{one_more}
use Rattle.putlines.proofs.LineLaws.{lines_on, lines_length, lines_none}
use Rattle.putlines.proofs.write_lines.Goals as goal

pub write_line-to-requires : goal.write_line-to-requires
write_line-to-requires g c =
    let l = c.loop-left in
    let z = c.loop-left-test.true in (
      c.requires.0,
      (
        omega (arith, l.invariant.place, c.requires.1.0, one_more l._left (row_width c.args.row) z),
        omega (arith, l.invariant.room, c.requires.1.1, lines_length c.args.name.now c.args.row l._left c.args.img.now l.from z),
      ),
    )

pub loop-left-preserved : goal.loop-left-preserved
loop-left-preserved g c =
    let l = c.loop-left in
    let z = c.loop-left-test.true in
    let w = c.row_width-from.ensures in
    record {
      place = omega (arith, l.invariant.place, w, one_more l._left (row_width c.args.row) z);
      room = rw w (omega (arith, l.invariant.room, c.write_line-to.ensures.room, lines_length c.args.name.now c.args.row l._left c.args.img.now l.from z));
      taken = λ t e p. l.invariant.taken t e (rw (lines_on c.args.name.now c.args.row l._left c.args.img.now l.from z, ← w) (g.met.S.Sink.takes_more _ _ _ _ _ _ _ _ c.write_line-to.ensures.taken p));
    }

pub returns : goal.returns
returns g c =
    let l = c.loop-left in
    let none = lines_none c.args.name.now c.args.row l._left c.args.img.now l.from c.loop-left-test.false in
    record { taken = l.invariant.taken _ _ (rw none (g.met.S.Sink.takes_none _ _)); room = omega (arith, l.invariant.room, ap length none) }
