use native.Mathlib.Omega.{arith}
use Rattle.text.specs.Form.{row_width}
use Rattle.putlines.proofs.LineLaws.{text_is, text_length}
use Rattle.putlines.proofs.write_text.Goals as goal

pub write_first-a-requires : goal.write_first-a-requires
write_first-a-requires g c = omega (arith, c.requires.1, text_length c.args.form c.args.img.now)

pub write_lines-b-requires : goal.write_lines-b-requires
unfolding row_width
write_lines-b-requires g c = (omega arith, (omega arith, omega (arith, c.requires.1, text_length c.args.form c.args.img.now, c.write_first-a.ensures.room)))

pub write_tables-requires : goal.write_tables-requires
write_tables-requires g c = (c.requires.0, omega (arith, c.requires.1, text_length c.args.form c.args.img.now, c.write_first-a.ensures.room, c.write_lines-b.ensures.room))

pub returns : goal.returns
returns g c =
    let more = g.met.S.Sink.takes_more in
    record {
      taken = rw (text_is c.args.form c.args.img.now) (more _ _ _ _ _ _ _ _ c.write_first-a.ensures.taken (more _ _ _ _ _ _ _ _ c.write_lines-b.ensures.taken c.write_tables.ensures.taken));
      room = omega (arith, text_length c.args.form c.args.img.now, c.write_first-a.ensures.room, c.write_lines-b.ensures.room, c.write_tables.ensures.room);
    }
