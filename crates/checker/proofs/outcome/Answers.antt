use Rattle.std.proofs.Common.{sym}
use Rattle.shape.proofs.Good.{good_laid}
use Rattle.checker.proofs.Laws.{check_wrong, check_good}
use Rattle.checker.proofs.outcome.Goals as goal

pub returns-in-Err : goal.returns-in-Err
returns-in-Err c = check_wrong _ _ c.in-Err.ensures

pub conditions-requires : goal.conditions-requires
conditions-requires c = let good = sym c.in-Ok.ensures in record { laid = good_laid _ good; good_shape = good }

pub returns-in-Ok : goal.returns-in-Ok
returns-in-Ok c = check_good _ c.in-Ok.ensures c.conditions.ensures
