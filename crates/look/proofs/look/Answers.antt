use mathlib.Core.Path.{refl, sym, ◌∙◌}
use native.Mathlib.Omega.{arith}
use Rattle.look.proofs.Laws.{sought_lt, error_some, layout_found, layout_not, look_end, look_token, look_less, look_on_lem}
use Rattle.look.proofs.look.Goals as goal

pub returns-then-text-at-clause-value : goal.returns-then-text-at-clause-value
returns-then-text-at-clause-value c = look_end _ _ _ _ _ c.if-text-at.true

pub piece-found-requires-clause-v_bound : goal.piece-found-requires-clause-v_bound
piece-found-requires-clause-v_bound c = rw c.sought_set-v.ensures.value (sought_lt c.args.img.now _ c.requires.ready.good)

pub returns-in_default-clause-value : goal.returns-in_default-clause-value
returns-in_default-clause-value c =
    rw c.in_default.is
    (look_token _ _ _ _ _ c.loop-here-test.true (c.in_default.ensures.for_its_state _ c.sought_set-v.ensures.value) (layout_not _ _ (error_some c.in_default.field-0)) refl
    ∙ sym c.loop-here.invariant.1)

pub returns-then-not-member-clause-value : goal.returns-then-not-member-clause-value
returns-then-not-member-clause-value c =
    look_token _ _ _ _ _ c.loop-here-test.true (c.in-Ok.ensures.for_its_state _ c.sought_set-v.ensures.value) (layout_found _ _ refl c.layout.ensures c.member.ensures) c.if-not-member.true
    ∙ sym c.loop-here.invariant.1

pub loop-here-smaller : goal.loop-here-smaller
loop-here-smaller c =
    let m = look_less _ _ _ _ _ c.loop-here-test.true (c.in-Ok.ensures.for_its_state _ c.sought_set-v.ensures.value) (layout_found _ _ refl c.layout.ensures c.member.ensures) c.if-not-member.false in
    omega (arith, c.loop-here-test.true, m)

pub loop-here-preserved : goal.loop-here-preserved
loop-here-preserved c =
    let w = c.in-Ok.ensures.looked_within in (
      record { place = w.place; moves = w.moves },
      c.loop-here.invariant.1
          ∙ look_on_lem _ _ _ _ _ c.loop-here-test.true (c.in-Ok.ensures.for_its_state _ c.sought_set-v.ensures.value) (layout_found _ _ refl c.layout.ensures c.member.ensures) c.if-not-member.false,
    )

pub returns-clause-value : goal.returns-clause-value
returns-clause-value c = look_end _ _ _ _ _ c.loop-here-test.false ∙ sym c.loop-here.invariant.1
