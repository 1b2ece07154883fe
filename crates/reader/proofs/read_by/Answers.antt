-- `reader::read_by` meets its contract.
use mathlib.Core.Path.{◌≡◌, ◌∙◌}
use native.Mathlib.Omega.{arith}
use lib.ListN.{length}
use lib.Seq.{take_at}
use Rattle.std.proofs.lemmas.Grind.{common_steps}
use Rattle.reader.proofs.TableLaws.{head_sized, in_rest, by_wrong, by_done}
use Rattle.reader.proofs.read_by.Goals as goal

pub needed-size-requires : goal.needed-size-requires
needed-size-requires g c = head_sized _ _ _ _ c.requires.head_read.0

pub whole_as_front-read_rest : goal.whole_as_front-read_rest
whole_as_front-read_rest g c = omega (arith, c.requires.room, c.needed-size.ensures)

pub read_rest-requires-clause-sized : goal.read_rest-requires-clause-sized
read_rest-requires-clause-sized g c = head_sized _ _ _ _ c.requires.head_read.0

pub shared_whole_as_front-judge : goal.shared_whole_as_front-judge
shared_whole_as_front-judge g c = omega (arith, c.requires.room, c.needed-size.ensures)

pub returns-in-Err : goal.returns-in-Err
returns-in-Err g c = rw c.refused.ensures (by_wrong _ _ _ _ _ (in_rest _ _ _ _ c.requires.head_read.0 ∙ c.in-Err.ensures.0))

pub returns : goal.returns
returns g c =
    let l : length c.read_rest.new.img ≡ c.needed-size.result = grind (arith, common_steps) in
    by_done _ _ _ _ _ _ _ _ (in_rest _ _ _ _ c.requires.head_read.0 ∙ c.in_default.ensures) (take_at _ _ _ l) c.judge.ensures
