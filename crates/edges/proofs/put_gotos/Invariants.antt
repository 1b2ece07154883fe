use Rattle.std.proofs.Common.{ℕ}
use Rattle.pack.specs.Image.{goto}
use Rattle.edges.specs.Rows.{PutOne}
use Rattle.edges.specs.Tables.{present}
use Rattle.edges.proofs.put_gotos.Given as goal

abbrev pub invariant-loop-a : goal.invariant-loop-a
invariant-loop-a l = PutOne (λ (b : ℕ). present (goto l.img l.s b) b) l.s l.a l.initial.goes l.goes
