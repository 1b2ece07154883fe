use Rattle.std.proofs.Common.{◌<◌, length, arith}
use Rattle.std.proofs.lemmas.Grind.{get_or_default_zero}
use Rattle.walkback.proofs.Laws as laws
use Rattle.walkback.proofs.end_right.Goals as goal

pub returns : goal.returns
returns c =
    let q = c.requires in
    let left = laws.lhs_most _ q.good_shape _ q.p_bound in
    let l : c.len.result < length c.args.walk.now.back = omega (arith, laws.len_most _ q.good_shape _ q.p_bound) in
    let m : c.lhs.result < length c.args.goes.now = omega (arith, left) in
    laws.end_is _ q.laid _ _ q.walked q.goers left c.len.ensures c.lhs.ensures
    (rw (get_or_default_zero c.args.walk.now.back c.len.result c.index-walk-len.result l, get_or_default_zero c.args.goes.now c.lhs.result c.index-goes-lhs.result m) at c.is_subset.ensures)
