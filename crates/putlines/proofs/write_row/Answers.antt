use native.Mathlib.Omega.{arith}
use Rattle.putlines.proofs.LineLaws.{group_row, group_length}
use Rattle.putlines.proofs.write_row.Goals as goal

pub write_fields-to-requires : goal.write_fields-to-requires
write_fields-to-requires g c = (omega (arith, c.requires.0), omega (arith, c.requires.1, group_length c.args.row c.args.img.now c.args.i c.in-Group.is))

pub write_fields-requires-in-Group : goal.write_fields-requires-in-Group
write_fields-requires-in-Group g c = (omega (arith, c.requires.0), omega (arith, c.requires.1, group_length c.args.row c.args.img.now c.args.i c.in-Group.is, c.write_fields-to.ensures.room))

pub returns-in-Group : goal.returns-in-Group
returns-in-Group g c = record {
  taken = rw (group_row _ _ _ c.in-Group.is) (g.met.S.Sink.takes_more _ _ _ _ _ _ _ _ c.write_fields-to.ensures.taken c.write_fields-in-Group.ensures.taken);
  room = omega (arith, group_length c.args.row c.args.img.now c.args.i c.in-Group.is, c.write_fields-to.ensures.room, c.write_fields-in-Group.ensures.room);
}
