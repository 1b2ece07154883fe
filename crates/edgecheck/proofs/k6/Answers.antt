use Rattle.std.proofs.Common.{◌<◌, length, sym, ◌∙◌, arith}
use Rattle.std.proofs.lemmas.Grind.{get_or_default_zero}
use Rattle.edgecheck.proofs.Laws as laws
use Rattle.edgecheck.proofs.k6.Goals as goal

pub returns-then-act-ne1 : goal.returns-then-act-ne1
returns-then-act-ne1 c =
    let q = c.requires in
    sym (laws.k6_none _ q.laid q.sources q.carried _ q.s_bound (λ e. c.if-act-ne1.true (c.act.ensures ∙ e)))

pub returns-then-not-has_only : goal.returns-then-not-has_only
returns-then-not-has_only c =
    let q = c.requires in
    let l : c.args.s < length c.args.on.now = omega (arith, q.laid.sized.s_most) in
    let only = rw (get_or_default_zero c.args.on.now c.args.s c.index-on-s.result l) at c.has_only.ensures in
    laws.k6_out _ q.laid q.sources q.carried _ q.s_bound (sym c.act.ensures ∙ c.if-act-ne1.false) only c.if-not-has_only.true

pub returns-then-has_only : goal.returns-then-has_only
returns-then-has_only c =
    let q = c.requires in
    let l : c.args.s < length c.args.on.now = omega (arith, q.laid.sized.s_most) in
    let m : c.args.s < length c.args.from.now = omega (arith, q.laid.sized.s_most) in
    let only = rw (get_or_default_zero c.args.on.now c.args.s c.index-on-s.result l) at c.has_only.ensures in
    let start = rw (get_or_default_zero c.args.from.now c.args.s c.index-from-s.result m) at c.has_only-2.ensures in
    rw (c.if-not-has_only.false, c.if-has_only.true) at (laws.k6_is _ q.laid q.sources q.carried _ q.s_bound (sym c.act.ensures ∙ c.if-act-ne1.false) only start)

pub returns-else-has_only : goal.returns-else-has_only
returns-else-has_only c =
    let q = c.requires in
    let l : c.args.s < length c.args.on.now = omega (arith, q.laid.sized.s_most) in
    let m : c.args.s < length c.args.from.now = omega (arith, q.laid.sized.s_most) in
    let only = rw (get_or_default_zero c.args.on.now c.args.s c.index-on-s.result l) at c.has_only.ensures in
    let start = rw (get_or_default_zero c.args.from.now c.args.s c.index-from-s.result m) at c.has_only-2.ensures in
    c.if-has_only.false ∙ (rw (c.if-not-has_only.false, c.if-has_only.false) at (laws.k6_is _ q.laid q.sources q.carried _ q.s_bound (sym c.act.ensures ∙ c.if-act-ne1.false) only start))
