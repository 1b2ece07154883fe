use Rattle.std.proofs.Common.{◌<◌, length, arith}
use Rattle.std.proofs.lemmas.Grind.{get_or_default_zero}
use Rattle.walkback.proofs.Laws as laws
use Rattle.walkback.proofs.step_right.Goals as goal

pub returns-then-contains : goal.returns-then-contains
returns-then-contains c =
    let q = c.requires in
    let l : c.args.i < length c.args.walk.now.back = omega (arith, laws.len_most _ q.good_shape _ q.p_bound.0) in
    laws.step_zero _ q.laid _ _ q.walked _ q.p_bound.1 (rw (get_or_default_zero c.args.walk.now.back c.args.i c.index-walk-i.result l) at c.contains.ensures) c.if-contains.true

pub returns : goal.returns
returns c =
    let q = c.requires in
    let l : c.args.i < length c.args.walk.now.back = omega (arith, laws.len_most _ q.good_shape _ q.p_bound.0) in
    let m : c.args.i < length c.args.walk.now.into = omega (arith, laws.len_most _ q.good_shape _ q.p_bound.0) in
    laws.step_only _ q.laid _ _ q.walked _ q.p_bound.1
    (rw (get_or_default_zero c.args.walk.now.back c.args.i c.index-walk-i.result l) at c.contains.ensures) c.if-contains.false
    (rw (get_or_default_zero c.args.walk.now.into c.args.i c.index-walk-i-2.result m) at c.has_only.ensures) c.symbol.ensures c.len.ensures
