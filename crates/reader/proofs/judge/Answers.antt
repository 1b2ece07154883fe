-- `reader::judge` meets its contract.
use mathlib.Core.Path.{sym}
use Rattle.reader.proofs.TableLaws.{judge_wrong, judge_good}
use Rattle.reader.proofs.judge.Goals as goal

pub returns-in-Err : goal.returns-in-Err
returns-in-Err c = judge_wrong _ _ _ _ (sym c.in-Err.ensures)

pub returns-in-Ok : goal.returns-in-Ok
returns-in-Ok c = judge_good _ _ _ _ _ (sym c.in-Ok.ensures) c.deliver.ensures
