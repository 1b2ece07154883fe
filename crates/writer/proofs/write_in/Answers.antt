-- `writer::write_in` meets its contract.
use mathlib.Core.Path.{sym}
use Rattle.shape.proofs.Good.{good_laid}
use Rattle.writer.proofs.Laws.{write_wrong, write_done}
use Rattle.writer.proofs.write_in.Goals as goal

pub write_good-requires : goal.write_good-requires
write_good-requires c = (good_laid _ (sym c.in-Ok.ensures)).sized

pub returns-in-Err : goal.returns-in-Err
returns-in-Err c = record { value = (write_wrong _ _ _ _ (sym c.in-Err.ensures)).0; buffer_after = (write_wrong _ _ _ _ (sym c.in-Err.ensures)).1 }

pub returns-in-Ok : goal.returns-in-Ok
returns-in-Ok c = record { value = (write_done _ _ _ _ _ (sym c.in-Ok.ensures) c.write_good.ensures).0; buffer_after = (write_done _ _ _ _ _ (sym c.in-Ok.ensures) c.write_good.ensures).1 }
