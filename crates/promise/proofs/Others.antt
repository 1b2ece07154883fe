-- Where nothing that is sought is matched, what matches of it last is outdone. So a valid terminal that the second scan matches there is one
-- that layout outdoes after more bytes. Assumes nothing.
use mathlib.Core.Path.{◌≡◌, refl, sym, ap, ◌∙◌}
use mathlib.Core.Bool.{Bool, true, false}
use mathlib.Core.List.{List}
use Prim.Native.Nat.{ℕ, zero, suc, ◌+◌, ◌-◌, ◌<◌, ◌≤◌}
use native.Mathlib.Omega.{arith}
use lib.Dec.{eqb}
use lib.ListN.{length, take, drop}
use borrow.Author.Tests.{eqb-true, eqb-false}
use Rattle.sets.specs.Sets.{has, lacks, meet}
use Rattle.sets.proofs.Laws.{has-lt, has_none, has-and, has-or}
use Rattle.pack.specs.Image.{terminals, states, scan_states, layout, dom, act, action_of, acc, rej, valid_set}
use Rattle.numbers.specs.Verdicts.{Good}
use Rattle.rules.specs.Rules.{act_right}
use Rattle.parserules.proofs.Laws.{layout_column}
use Rattle.shape.specs.Shape.{parser_rules, act_rule, shape}
use Rattle.shape.proofs.Laws.{rule_good, and_then_good, each_at}
use Rattle.shape.proofs.Good.{good_parts, good_rej, good_layout}
use Rattle.shape.proofs.GoodParser.{good_accept}
use Rattle.conditions.specs.Conditions.{Passes, matched, sought}
use Rattle.scan.specs.Matching.{led_from, Leads, Matches, Last}
use Rattle.scan.proofs.Matching.{same_state, led}
use Rattle.parse.specs.Leaf.{part}
use Rattle.promise.specs.Cover.{NoMatch}
use Rattle.promise.specs.Refusal.{Outdone}
use Rattle.promise.proofs.Matching.{has_below, some_matched}

module _ (img : List ℕ) (good : shape img ≡ Good) where
  act_right_lem : (s t : ℕ) → s < states img → t < terminals img → act_right img t (action_of (act img s t)) ≡ true
  unfolding parser_rules act_rule
  act_right_lem s t ls lt =
      let rows = (and_then_good _ _ (and_then_good _ _ (and_then_good _ _ (and_then_good _ _ (good_parts img good).1).1).1).1).0 in
      rule_good _ _ (each_at _ _ (each_at _ _ rows s ls) t lt)

  -- A valid terminal is not layout.
  pub not_layout : (s t : ℕ) → s < states img → t < terminals img → (act img s t ≡ 0 → ⊥) → has (layout img) t ≡ 0
  unfolding lacks
  not_layout s t ls lt n = go (eqb (act img s t) 1) refl (eqb (has (layout img) t) 0) refl
    where
      go : (x : Bool) → eqb (act img s t) 1 ≡ x → (y : Bool) → eqb (has (layout img) t) 0 ≡ y → has (layout img) t ≡ 0
      go x e true f = eqb-true _ _ f
      go true e false f = rw (good_accept img good s t ls lt (eqb-true _ _ e)) (good_layout img good).1
      go false e false f =
          let w = layout_column img t (act img s t) refl n (eqb-false _ _ e) f in
          let z : ◌≡◌ {A = ℕ} 0 1 = cc (sym w ∙ act_right_lem s t ls lt) in absurd (omega arith)

-- What matches at some length matches last at that or a greater one.
module _ (img bytes : List ℕ) (v n q : ℕ) (leads : Leads img (take n bytes) q) (here : meet (matched img q) v ≡ 0 → ⊥) where
  record Later : Type 0 where
    size : ℕ
    state : ℕ
    last : Last img bytes v size state
    no_less : n ≤ size

  -- d lengths above n are still to be looked at.
  seek_last : (d : ℕ) → n + d ≤ length bytes → ((m p : ℕ) → n + d < m → m ≤ length bytes → Leads img (take m bytes) p → meet (matched img p) v ≡ 0) → Later
  seek_last zero l after =
      record {
        size = n;
        state = q;
        last = record { within = omega arith; leads = leads; here = here; after = λ m p h w k. after m p (omega arith) w k };
        no_less = omega arith;
      }
  seek_last (suc d) l after = go (seek_last d (omega arith)) (led_from img 0 (take (n + suc d) bytes)) refl
    where
      -- Nothing matches at this length either.
      with_this : ((p : ℕ) → Leads img (take (n + suc d) bytes) p → meet (matched img p) v ≡ 0)
          → (m p : ℕ) → n + d < m → m ≤ length bytes → Leads img (take m bytes) p → meet (matched img p) v ≡ 0
      with_this this m p h w k = which (eqb m (n + suc d)) refl
        where
          which : (y : Bool) → eqb m (n + suc d) ≡ y → meet (matched img p) v ≡ 0
          which true f = this p (rw (eqb-true m (n + suc d) f) at k)
          which false f = let z : (m ≡ n + suc d → ⊥) = eqb-false m (n + suc d) f in after m p (omega arith) w k

      go : (((m p : ℕ) → n + d < m → m ≤ length bytes → Leads img (take m bytes) p → meet (matched img p) v ≡ 0) → Later)
          → (x : ℕ) → led_from img 0 (take (n + suc d) bytes) ≡ x → Later
      go ih zero e = ih (with_this (λ p k. absurd (omega (arith, e, k.way))))
      go ih (suc p) e = test (eqb (meet (matched img p) v) 0) refl
        where
          test : (y : Bool) → eqb (meet (matched img p) v) 0 ≡ y → Later
          test false f =
              record {
                size = n + suc d;
                state = p;
                last = record { within = l; leads = record { way = e }; here = eqb-false _ _ f; after = after };
                no_less = omega arith;
              }
          test true f = ih (with_this (λ r k. let z : r ≡ p = omega (arith, e, k.way) in rw z (eqb-true _ _ f)))

  some_last : n ≤ length bytes → Later
  some_last l =
      let z : n + (length bytes - n) ≡ length bytes = omega arith in
      seek_last (length bytes - n) (omega arith) (λ m p h w k. absurd (omega (arith, z)))

module _ (img : List ℕ) (passes : Passes img) (text : List ℕ) (s place : ℕ) (none : NoMatch img (drop place text) (sought img s)) where
  -- What matches last is rejected, and so outranked.
  pub outdone : {n q : ℕ} → Last img (drop place text) (sought img s) n q → Outdone img text s place
  outdone {n} {q} last = record { size = n; q = q; last = last; by = λ t d m. go t d (rw (same_state m.leads last.leads) at m.here) }
    where
      lq : q < scan_states img
      lq = led img passes.good last.leads

      go : (t : ℕ) → has (sought img s) t ≡ 1 → has (matched img q) t ≡ 1 → (u : ℕ) × (has (dom img t) u ≡ 1) × Matches img (part text place n) u
      go t d h =
          let z = ap (λ (x : ℕ). has x t) (none.only_rejects n q last) in
          let r : has (rej img q) t ≡ 1 = omega (
            arith,
            z,
            has_none t,
            has-and (acc img q) (sought img s) t,
            has-or (acc img q) (rej img q) t,
            d,
            h,
            has-lt (acc img q) t,
            has-lt (rej img q) t,
          ) in
          let o = (passes.k1 q lq).rejected t (has_below t (good_rej img passes.good q lq).0 r) r in
          (o.by, o.outranks, record { state = q; leads = last.leads; here = o.matches_too })

  -- A valid terminal that is accepted all the same is accepted after fewer bytes.
  pub outdone_further : {size q : ℕ} (terminal : ℕ) → size ≤ length (drop place text) → Leads img (part text place size) q → has (acc img q) terminal ≡ 1
      → has (valid_set img s) terminal ≡ 1 → (o : Outdone img text s place) × (size < o.size)
  unfolding outdone
  outdone_further {size} {q} terminal w leads a v = go (some_last img (drop place text) (sought img s) size q leads matches w)
    where
      is_sought : has (sought img s) terminal ≡ 1
      is_sought = omega (arith, v, has-or (valid_set img s) (layout img) terminal, has-lt (layout img) terminal)

      matches : meet (matched img q) (sought img s) ≡ 0 → ⊥
      matches = some_matched img q (sought img s) terminal a is_sought

      go : Later img (drop place text) (sought img s) size q leads matches → (o : Outdone img text s place) × (size < o.size)
      go l = longer (eqb size l.size) refl
        where
          longer : (x : Bool) → eqb size l.size ≡ x → (o : Outdone img text s place) × (size < o.size)
          longer false e = let z : (size ≡ l.size → ⊥) = eqb-false _ _ e in (outdone l.last, omega (arith, l.no_less))
          longer true e =
              let z = same_state (rw (← eqb-true size l.size e) at l.last.leads) leads in
              let n = rw z at (none.only_rejects l.size l.state l.last) in
              absurd (omega (arith, ap (λ (x : ℕ). has x terminal) n, has_none terminal, has-and (acc img q) (sought img s) terminal, a, is_sought))
