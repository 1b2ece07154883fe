use Rattle.std.proofs.Common.{◌≡◌, ◌≤◌, ◌+◌, ◌-◌, ap, ◌∙◌, arith}
use Rattle.pack.specs.Image.{terminals}
use Rattle.conditions.specs.Edges.{symbols, shift_of}
use Rattle.edges.proofs.RowLaws.{one_none, each_none, one_more, each_more, one_past, each_past}
use Rattle.edges.proofs.TableLaws.{edge_within, edge_shift, edge_goto, edge_none}
use Rattle.edges.proofs.put_edges.Goals as goal

pub shifts-init : goal.shifts-init
shifts-init c = record { sources = one_none _ _ _; carried = each_none _ _ }

pub put_one-requires : goal.put_one-requires
put_one-requires c =
    let e = c.shift_of-to.ensures ∙ ap shift_of c.act.ensures ∙ edge_shift _ _ c.shifts.t (omega arith) in
    rw e (edge_within _ c.requires.good_shape _ c.shifts.t c.requires.s_bound)

pub put_one-requires-in-shifts : goal.put_one-requires-in-shifts
put_one-requires-in-shifts c =
    let e = c.shift_of-to.ensures ∙ ap shift_of c.act.ensures ∙ edge_shift _ _ c.shifts.t (omega arith) in
    rw e (edge_within _ c.requires.good_shape _ c.shifts.t c.requires.s_bound)

pub shifts-preserved : goal.shifts-preserved
shifts-preserved c =
    let v = c.shifts.invariant in
    let e = c.shift_of-to.ensures ∙ ap shift_of c.act.ensures ∙ edge_shift _ _ c.shifts.t (omega arith) in
    record { sources = one_more _ v.sources e (c.put_one.ensures _ c.of-here.ensures); carried = each_more _ v.carried e (c.put_one-in-shifts.ensures _ c.of_low.ensures) }

pub put_one-requires-in-gotos : goal.put_one-requires-in-gotos
put_one-requires-in-gotos c =
    let e = c.goto_of-to.ensures ∙ c.goto.ensures ∙ edge_goto _ _ c.gotos.x c.requires.laid.sized.t_most (omega arith) (omega arith) in
    rw e (edge_within _ c.requires.good_shape _ c.gotos.x c.requires.s_bound)

pub put_one-requires-in-gotos-2 : goal.put_one-requires-in-gotos-2
put_one-requires-in-gotos-2 c =
    let e = c.goto_of-to.ensures ∙ c.goto.ensures ∙ edge_goto _ _ c.gotos.x c.requires.laid.sized.t_most (omega arith) (omega arith) in
    rw e (edge_within _ c.requires.good_shape _ c.gotos.x c.requires.s_bound)

pub gotos-preserved : goal.gotos-preserved
gotos-preserved c =
    let v = c.gotos.invariant in
    let e = c.goto_of-to.ensures ∙ c.goto.ensures ∙ edge_goto _ _ c.gotos.x c.requires.laid.sized.t_most (omega arith) (omega arith) in
    let z : 64 + (c.gotos.x - 64) ≡ c.gotos.x = omega arith in
    record { sources = λ row p. one_more _ (v.sources row p) e (c.put_one-in-gotos.ensures _ c.of-here.ensures); carried = λ row p. each_more _ (v.carried row p) e (c.put_one-in-gotos-2.ensures _ (rw z at c.of_high.ensures)) }

pub returns : goal.returns
returns c =
    let v = c.gotos.invariant in
    let z : c.gotos.x ≡ symbols c.args.img.now = omega arith in
    let few : c.shifts.t ≤ 64 = omega (arith, c.requires.laid.sized.t_most) in
    let end : terminals c.args.img.now ≤ c.shifts.t = omega arith in (
      rw z at (v.sources _ (one_past _ few (λ t b d. edge_none _ _ t (omega (arith, end, b)) d) c.shifts.invariant.sources)),
      rw z at (v.carried _ (each_past _ few (λ t b d. edge_none _ _ t (omega (arith, end, b)) d) c.shifts.invariant.carried)),
    )
