use Rattle.std.proofs.Common.{◌<◌, length, sym, ◌∙◌, arith}
use Rattle.std.proofs.lemmas.Grind.{get_or_default_zero}
use Rattle.edgecheck.proofs.Laws as laws
use Rattle.edgecheck.proofs.k4.Goals as goal

pub returns-in-None : goal.returns-in-None
returns-in-None c =
    let q = c.requires in
    let l : c.args.v < length c.args.on.now = omega (arith, q.laid.sized.s_most) in
    sym (laws.k4_none _ q.laid q.carried _ q.v_bound (rw (get_or_default_zero c.args.on.now c.args.v c.index-on-v.result l) at c.in-None.ensures))

pub returns-then-has_only : goal.returns-then-has_only
returns-then-has_only c =
    let q = c.requires in
    let l : c.args.v < length c.args.on.now = omega (arith, q.laid.sized.s_most) in
    let next = rw (get_or_default_zero c.args.on.now c.args.v c.index-on-v.result l) at c.in-Some.ensures in
    let only = rw (get_or_default_zero c.args.on.now c.args.v c.index-on-v-in-Some.result l) at c.has_only.ensures in
    rw c.if-has_only.true at (laws.k4_is _ q.laid q.carried _ _ q.v_bound next.0 next.1 only)

pub returns-else-has_only : goal.returns-else-has_only
returns-else-has_only c =
    let q = c.requires in
    let l : c.args.v < length c.args.on.now = omega (arith, q.laid.sized.s_most) in
    let next = rw (get_or_default_zero c.args.on.now c.args.v c.index-on-v.result l) at c.in-Some.ensures in
    let only = rw (get_or_default_zero c.args.on.now c.args.v c.index-on-v-in-Some.result l) at c.has_only.ensures in
    c.if-has_only.false ∙ (rw c.if-has_only.false at (laws.k4_is _ q.laid q.carried _ _ q.v_bound next.0 next.1 only))
