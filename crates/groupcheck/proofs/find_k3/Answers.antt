use Rattle.std.proofs.Common.{◌≡◌, ◌<◌, ◌≤◌, ◌+◌, ◌-◌, refl, sym, ap₂, ◌∙◌, arith}
use Rattle.sets.specs.Sets.{union}
use Rattle.pack.specs.Image.{states}
use Rattle.conditions.proofs.WalkLaws.{find_start, rows_end, rows_row, row_on, row_hit}
use Rattle.conditions.specs.Check.{c3, finding_of, firsts, seconds}
use Rattle.groupcheck.proofs.Laws.{pairs, looked, others, row_right}
use Rattle.groupcheck.proofs.find_k3.Goals as goal

pub states-init : goal.states-init
unfolding firsts seconds
states-init c = record { none = refl; same = find_start c3 _ refl c.scan_states-nq.ensures }

pub scans-init : goal.scans-init
scans-init c =
    let o = c.states.invariant in
    let l : c.states.s < states c.args.img.now = omega arith in record {
      none = o.none;
      tested = pairs _ _ c.scan_states-nq.ensures (ap₂ union c.valid_set.ensures c.layout.ensures) c.together-crowded.ensures;
      same = o.same ∙ rows_row _ _ _ _ l;
    }

pub scans-preserved : goal.scans-preserved
scans-preserved c =
    let v = c.scans.invariant in
    let e = c.to_look_at-q-end.ensures in
    let m : c.scans.q < c.scan_states-nq.result = omega (arith, looked _ e.0 e.1) in record {
      none = v.none;
      tested = v.tested;
      same = v.same ∙ row_on _ _ _ _ _ m (sym (v.tested _ m) ∙ sym c.settled.ensures ∙ c.if-not-settled.false);
    }

pub states-preserved : goal.states-preserved
states-preserved c =
    let v = c.scans.invariant in
    let e = c.to_look_at-q-end.ensures in
    let z : c.scans.q + (c.scan_states-nq.result - c.scans.q) ≡ c.scan_states-nq.result = omega (arith, looked _ e.0 e.1) in record {
      none = v.none;
      same = v.same ∙ row_right _ _ _ _ _ c.scans.q z (λ j l m. sym (v.tested j m) ∙ others _ e.0 e.1 _ j (omega (arith, l)) m);
    }

pub returns-after-states : goal.returns-after-states
unfolding finding_of
returns-after-states c =
    let v = c.states.invariant in
    let l : states c.args.img.now ≤ c.states.s = omega arith in
    rw v.none (sym (v.same ∙ rows_end _ _ _ _ l))

pub returns-then-not-settled : goal.returns-then-not-settled
unfolding finding_of
returns-then-not-settled c =
    let v = c.scans.invariant in
    let e = c.to_look_at-q-end.ensures in
    let m : c.scans.q < c.scan_states-nq.result = omega (arith, looked _ e.0 e.1) in
    sym (v.same ∙ row_hit _ _ _ _ _ m (sym (v.tested _ m) ∙ sym c.settled.ensures ∙ c.if-not-settled.true))
