use Rattle.std.proofs.Common.{ap, ◌∙◌, ℕ, arith}
use Rattle.edges.specs.Tables.{present}
use Rattle.edges.proofs.RowLaws.{one_none, one_more}
use Rattle.edges.proofs.TableLaws.{present_within}
use Rattle.edges.proofs.put_gotos.Goals as goal

pub loop-a-init : goal.loop-a-init
loop-a-init c = one_none _ _ _

pub put_one-requires : goal.put_one-requires
put_one-requires c = rw c.present.ensures (present_within c.goto.result c.loop-a.a (omega (arith, c.requires.laid)))

pub loop-a-preserved : goal.loop-a-preserved
loop-a-preserved c = one_more _ c.loop-a.invariant (c.present.ensures ∙ ap (λ (x : ℕ). present x c.loop-a.a) c.goto.ensures) (c.put_one.ensures _ c.of-here.ensures)
