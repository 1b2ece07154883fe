use mathlib.Core.Path.{refl, ◌∙◌}
use native.Mathlib.Omega.{arith}
use borrow.Author.Rules.{rules}
use Rattle.printwalk.proofs.Bytes.{bytes_start, bytes_room, bytes_on}
use Rattle.printwalk.proofs.put.put_bytes.Goals as goal

pub loop-i-init : goal.loop-i-init
loop-i-init c = (omega arith, refl, bytes_start _ _ _ c.requires)

pub put_escaped-at-requires : goal.put_escaped-at-requires
put_escaped-at-requires c =
    bytes_room _ _ _ c.requires _ c.loop-i-test.true c.loop-i.invariant.0 c.loop-i.invariant.2

pub loop-i-preserved : goal.loop-i-preserved
loop-i-preserved c = (
  search rules,
  c.put_escaped-at.auto.out ∙ c.loop-i.invariant.1,
  bytes_on _ _ _ c.requires _ c.loop-i-test.true c.loop-i.invariant.0 c.loop-i.invariant.2 c.put_escaped-at.ensures,
)
