-- What is promised fixes the answer: a text has one derivation, and two parses of one text that come to an end of their own end alike,
-- whatever room and allowance were given. Assumes nothing.
use mathlib.Core.Path.{◌≡◌, refl, sym, ap, ◌∙◌}
use mathlib.Core.List.{List, [], ◌∷◌}
use Prim.Native.Nat.{ℕ, ◌≤◌}
use native.Mathlib.Omega.{arith}
use lib.ListN.{length}
use Rattle.sets.specs.Sets.{has}
use Rattle.sets.proofs.Laws.{has_none, has-and}
use Rattle.numbers.specs.Codes.{done, no_terminal, unexpected}
use Rattle.pack.specs.Image.{act, acc, all_but_end_and_layout, end_of_text}
use Rattle.conditions.specs.Conditions.{Passes}
use Rattle.conditions.specs.Check.{passed, check}
use Rattle.conditions.proofs.Answers.{checked_passes}
use Rattle.parse.specs.Parse.{Ending, parse, top}
use Rattle.promise.specs.Refusal.{NoTerminal, Unexpected, at_end, instead}
use Rattle.promise.specs.Promised.{Accepted, Promised, Own, accepting, none_found, other_found, Alike}
use Rattle.promise.specs.Way.{Reached, reached, Way}
use Rattle.scan.proofs.Matching.{same_state, one_last}
use Rattle.promise.proofs.Ways.{Stops, one_way, accepts_stops, none_stops, other_stops}
use Rattle.promise.proofs.Promised.{promised_checked}

-- There is one unexpected token at a place; and none where no terminal matches.
module _ {img text : List ℕ} {s r place : ℕ} where
  one_other : {n m t u : ℕ} → Unexpected img text s place n t → Unexpected img text r place m u → (n ≡ m) × (t ≡ u)
  one_other (at_end l e i) (at_end k f j) = (refl, refl)
  one_other (at_end l e i) (instead n t q k m last a b c d) = absurd (omega arith)
  one_other (instead n t q l m last a b c d) (at_end k f j) = absurd (omega arith)
  one_other (instead n t q l o last a b c d) (instead m u p k z last' a' b' c' d') =
      let e = one_last last last' in
      let below = d u b' (rw (← e) at c') in
      let above = d' t b (rw e at c) in
      (e, omega (arith, below, above))

  not_none : {n t : ℕ} → NoTerminal img text s place → Unexpected img text r place n t → ⊥
  not_none x (at_end l e i) = omega (arith, x.before_end)
  not_none x (instead n t q l o last a b c d) =
      let z = ap (λ (y : ℕ). has y t) (x.no_other.only_rejects n q last) in
      let h = rw (same_state c.leads last.leads) at c.here in
      omega (arith, z, has_none t, has-and (acc img q) (all_but_end_and_layout img) t, h, b)

module _ (img : List ℕ) (passes : Passes img) (text : List ℕ) where
  stops : {words : List ℕ} (a : Accepted img text words) → Stops img text (reached (a.final ∷ 0 ∷ []) words (length text))
  stops a = accepts_stops img passes.good text (omega arith) a.accepts

  pub one_derivation : {a b : List ℕ} → Accepted img text a → Accepted img text b → a ≡ b
  one_derivation a b = ap (λ (r : Reached). r.words) (one_way img passes.good text a.way (stops a) b.way (stops b))

  -- What an end of its own is, with this state on top; and the way there, which goes no further.
  data Kind (e : Ending) (state : ℕ) : Type 0 where
    accepting_end : e.parsed.code ≡ done → e.parsed.place ≡ length text → act img state end_of_text ≡ 1 → Kind e state
    no_token : e.parsed.code ≡ no_terminal → NoTerminal img text state e.parsed.place → Kind e state
    other_token : e.parsed.code ≡ unexpected → Unexpected img text state e.parsed.place e.parsed.length e.parsed.terminal → Kind e state

  record End (e : Ending) : Type 0 where
    state : ℕ
    below : List ℕ
    way : Way img text (reached (state ∷ below) e.words e.parsed.place)
    kind : Kind e state

  end : {e : Ending} → Promised img text e → Own e.parsed.code → End e
  end p (accepting c) =
      let a = p.accepted c in
      let z = p.at_the_end c in
      record { state = a.final; below = 0 ∷ []; way = rw z a.way; kind = accepting_end c z a.accepts }
  end p (none_found c) =
      let r = p.refused (omega (arith, c)) in
      record { state = r.state; below = r.below; way = r.way; kind = no_token c (r.why_none c) }
  end p (other_found c) =
      let r = p.refused (omega (arith, c)) in
      record { state = r.state; below = r.below; way = r.way; kind = other_token c (r.why_other c) }

  no_further : {e : Ending} {state : ℕ} {below : List ℕ} → Kind e state → Stops img text (reached (state ∷ below) e.words e.parsed.place)
  no_further {e} (accepting_end c z a) = let l : length text ≤ e.parsed.place = omega (arith, z) in accepts_stops img passes.good text l a
  no_further (no_token c n) = none_stops img passes.good text n
  no_further (other_token c u) = other_stops img passes.good text u

  -- A state that accepts at the end of the text has no unexpected token there.
  not_other : {s place n t : ℕ} → length text ≤ place → act img s end_of_text ≡ 1 → Unexpected img text s place n t → ⊥
  not_other l a (at_end k e i) = omega (arith, a, e)
  not_other l a (instead n t q k o last b c d f) = omega (arith, l, k)

  module _ (e f : Ending) {s r : ℕ} (same-top : s ≡ r) (same_place : e.parsed.place ≡ f.parsed.place) where
    agree : Kind e s → Kind f r → (e.parsed.code ≡ f.parsed.code)
        × (e.parsed.code ≡ unexpected → (e.parsed.length ≡ f.parsed.length) × (e.parsed.terminal ≡ f.parsed.terminal))
    agree (accepting_end c z a) (accepting_end d y b) = (c ∙ sym d, λ x. absurd (omega (arith, c, x)))
    agree (accepting_end c z a) (no_token d n) = absurd (omega (arith, z, same_place, n.before_end))
    agree (accepting_end c z a) (other_token d u) =
        let l : length text ≤ f.parsed.place = omega (arith, z, same_place) in absurd (not_other l (rw same-top at a) u)
    agree (no_token c n) (accepting_end d y b) = absurd (omega (arith, y, same_place, n.before_end))
    agree (no_token c n) (no_token d m) = (c ∙ sym d, λ x. absurd (omega (arith, c, x)))
    agree (no_token c n) (other_token d u) = absurd (not_none (rw same_place at n) u)
    agree (other_token c u) (accepting_end d y b) =
        let l : length text ≤ e.parsed.place = omega (arith, y, same_place) in absurd (not_other l (rw (← same-top) at b) u)
    agree (other_token c u) (no_token d n) = absurd (not_none n (rw same_place at u))
    agree (other_token c u) (other_token d v) = (c ∙ sym d, λ x. one_other (rw same_place at u) v)

  pub one_ending : {e f : Ending} → Promised img text e → Promised img text f → Own e.parsed.code → Own f.parsed.code → Alike e f
  one_ending {e} {f} p q c d = go (end p c) (end q d)
    where
      go : End e → End f → Alike e f
      go a b =
          let z = one_way img passes.good text a.way (no_further a.kind) b.way (no_further b.kind) in
          let y : a.state ≡ b.state = ap (λ (x : Reached). top x.stack) z in
          let w : e.parsed.place ≡ f.parsed.place = ap (λ (x : Reached). x.place) z in
          let g = agree e f y w a.kind b.kind in
          record { code = g.0; place = w; words = ap (λ (x : Reached). x.words) z; token = g.1 }

-- Of the parse itself.
pub one_answer : (img : List ℕ) → check img ≡ passed → (text tree tree' : List ℕ) (allowance allowance' : ℕ) → Own (parse img text tree allowance).parsed.code
    → Own (parse img text tree' allowance').parsed.code → Alike (parse img text tree allowance) (parse img text tree' allowance')
one_answer img checked text tree tree' allowance allowance' =
    one_ending img (checked_passes img checked) text (promised_checked img checked text tree allowance) (promised_checked img checked text tree' allowance')
