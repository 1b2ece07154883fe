-- There is one way of the tables over a text, for a pack of good shape: from what a parse has come to there is one step at the most. So two
-- ways are the same as far as the shorter one goes, and two that can go no further are the same. Assumes nothing.
use mathlib.Core.Path.{◌≡◌, refl, sym, ap, ◌∙◌}
use mathlib.Core.Bool.{Bool, true, false}
use mathlib.Core.Logic.{◌⊎◌, inl, inr}
use mathlib.Core.List.{List, [], ◌∷◌, ◌++◌, append_assoc, append-nil}
use Prim.Native.Nat.{ℕ, zero, suc, ◌+◌, ◌<◌, ◌≤◌}
use native.Mathlib.Omega.{arith}
use lib.Dec.{eqb, ltb}
use lib.ListN.{length, drop, length-drop}
use borrow.Author.Tests.{eqb-true, eqb-false, ltb-true, ltb-false}
use Rattle.sets.specs.Sets.{has, meet, several}
use Rattle.sets.proofs.Laws.{has_none, has-and}
use Rattle.pack.specs.Image.{groups, act, acc, group_set, chosen}
use Rattle.numbers.specs.Verdicts.{Good}
use Rattle.rules.specs.Rules.{fits, differs, group_right}
use Rattle.shape.specs.Shape.{scanner_rules, group_rule, shape}
use Rattle.shape.proofs.Laws.{both, rule_good, and_then_good, each_at}
use Rattle.shape.proofs.Good.{good_parts}
use Rattle.conditions.specs.Conditions.{sought}
use Rattle.scan.specs.Matching.{Last}
use Rattle.parse.specs.Parse.{top}
use Rattle.promise.specs.Cover.{Chosen, alone, grouped, NoMatch, RightMatch, RightLeaf, Blank, Blanks, none, more, Covers, start, blank, leaf, node}
use Rattle.promise.specs.Refusal.{NoTerminal, Unexpected, at_end, instead}
use Rattle.promise.specs.Way.{Token, word, at_end_of_text, Reached, reached, Acts, skips, shifts, reduces, Way, begin, on}
use Rattle.scan.proofs.Matching.{same_state, one_last, same_last, some_bytes}

-- A way is a cover, and goes on over pieces of layout. A cover lies within the text.
pub covers : {img text : List ℕ} {a : Reached} → Way img text a → Covers img text a.words a.place
covers begin = start
covers (on w (skips size b)) = blank size _ (covers w) b
covers (on w (shifts t size v r e)) = leaf t size _ (covers w) r
covers (on w (reduces t p v k e l g)) = node p _ (covers w)

pub on_blanks : {img text stack words : List ℕ} {from to : ℕ} → Way img text (reached stack words from) → Blanks img text (top stack) from to
    → Way img text (reached stack words to)
on_blanks w none = w
on_blanks w (more size b piece) = on (on_blanks w b) (skips size piece)

pub covers_within : {img text words : List ℕ} {place : ℕ} → Covers img text words place → place ≤ length text
covers_within start = omega arith
covers_within {text = text} (blank {place = place} size state c b) = let h = covers_within c in omega (arith, b.right.last.within, length-drop place text)
covers_within {text = text} (leaf {place = place} t size state c r) = let h = covers_within c in omega (arith, r.right.last.within, length-drop place text)
covers_within (node p state c) = covers_within c

-- From one thing reached to another.
pub data Onward (img text : List ℕ) : Reached → Reached → Type 0 where
  same : {a : Reached} → Onward img text a a
  next : {a b c : Reached} → Acts img text a b → Onward img text b c → Onward img text a c

-- There is no step from here.
pub record Stops (img text : List ℕ) (a : Reached) : Type 0 where
  pub no_step : (b : Reached) → Acts img text a b → ⊥

-- What was written stays, and nothing is read twice.
pub record Further (a b : Reached) : Type 0 where
  pub more_words : List ℕ
  pub front : b.words ≡ a.words ++ more_words
  pub no_less : a.place ≤ b.place

one_further : {img text : List ℕ} {a b : Reached} → Acts img text a b → Further a b
one_further {a = a} (skips size x) = record { more_words = []; front = sym (append-nil a.words); no_less = omega arith }
one_further (shifts t size v r e) = record { more_words = _; front = refl; no_less = omega arith }
one_further (reduces t p v k e l g) = record { more_words = _; front = refl; no_less = omega arith }

pub further : {img text : List ℕ} {a b : Reached} → Onward img text a b → Further a b
further {a = a} same = record { more_words = []; front = sym (append-nil a.words); no_less = omega arith }
further {a = a} (next x o) =
    let f = one_further x in
    let g = further o in
    record {
      more_words = f.more_words ++ g.more_words;
      front = g.front ∙ (ap (λ (w : List ℕ). w ++ g.more_words) f.front ∙ append_assoc a.words f.more_words g.more_words);
      no_less = omega (arith, f.no_less, g.no_less);
    }

-- Where there is no step, there is nothing further.
pub one_end : {img text : List ℕ} {a b : Reached} → Onward img text a b → Stops img text a → a ≡ b
one_end same x = refl
one_end (next z o) x = absurd (x.no_step _ z)

then_on : {img text : List ℕ} {a b c : Reached} → Onward img text a b → Acts img text b c → Onward img text a c
then_on same x = next x same
then_on (next y o) x = next y (then_on o x)

from_start : {img text : List ℕ} {b : Reached} → Way img text b → Onward img text (reached (0 ∷ []) [] 0) b
from_start begin = same
from_start (on w x) = then_on (from_start w) x

module _ (img : List ℕ) (good : shape img ≡ Good) where
  -- No two groups have one set.
  group_rule_lem : (g : ℕ) → g < groups img → group_right img g ≡ true
  unfolding scanner_rules group_rule
  group_rule_lem g l =
      let rows = (and_then_good _ _ (and_then_good _ _ (and_then_good _ _ (good_parts img good).2).1).1).1 in
      rule_good _ _ (and_then_good _ _ (each_at _ _ rows g l)).0

  differs_from : (set n g h : ℕ) → differs img set n g ≡ true → g ≤ h → h < g + n → group_set img h ≡ set → ⊥
  unfolding differs
  differs_from set zero g h d a b e = omega arith
  differs_from set (suc n) g h d a b e = go (differs_from set n (g + 1) h) (eqb (group_set img g) set) refl (eqb h g) refl
    where
      go : (differs img set n (g + 1) ≡ true → g + 1 ≤ h → h < g + 1 + n → group_set img h ≡ set → ⊥) → (x : Bool) → eqb (group_set img g) set ≡ x
          → (y : Bool) → eqb h g ≡ y → ⊥
      go ih true f y k =
          let w : differs img set (suc n) g ≡ false = simp (differs, f) in
          let z : ◌≡◌ {A = ℕ} 0 1 = cc (sym w ∙ d) in omega arith
      go ih false f true k = eqb-false _ _ f (rw (eqb-true h g k) at e)
      go ih false f false k =
          let w : differs img set (suc n) g ≡ differs img set n (g + 1) = simp (differs, f) in
          let z : (h ≡ g → ⊥) = eqb-false h g k in
          ih (sym w ∙ d) (omega arith) (omega arith) e

  earlier : (g h : ℕ) → h < g → g < groups img → group_set img h ≡ group_set img g → ⊥
  earlier g h l lg =
      differs_from (group_set img g) g 0 h
      (both (several (group_set img g)) _ (both (fits img (group_set img g)) _ (group_rule_lem g lg)).1).1 (omega arith) (omega arith)

  one_group : (g h : ℕ) → g < groups img → h < groups img → group_set img g ≡ group_set img h → g ≡ h
  one_group g h lg lh e = go (ltb g h) refl (ltb h g) refl
    where
      go : (x : Bool) → ltb g h ≡ x → (y : Bool) → ltb h g ≡ y → g ≡ h
      go true a y b = absurd (earlier h g (ltb-true _ _ a) lh e)
      go false a true b = absurd (earlier g h (ltb-true _ _ b) lg (sym e))
      go false a false b = omega (arith, ltb-false g h a, ltb-false h g b)

  one_chosen : {set t u : ℕ} → Chosen img set t → Chosen img set u → has set t ≡ 1 → has set u ≡ 1 → t ≡ u
  one_chosen {u = u} (alone f) c a b = sym (f u b)
  one_chosen {t = t} (grouped g lg e c) (alone f) a b = f t a
  one_chosen (grouped g lg e c) (grouped h lh f d) a b = sym c ∙ (ap (λ (x : ℕ). chosen img x) (one_group g h lg lh (e ∙ sym f)) ∙ d)

  module _ (text : List ℕ) where
    -- Two matches that are right at one place in one state are the same; so no leaf begins where a piece of layout does.
    in_set : {t start size s : ℕ} (r : RightMatch img text t start size s) → has (meet (acc img r.q) (sought img s)) t ≡ 1
    in_set {t = t} {s = s} r =
        let a = rw (same_state r.accepted.leads r.last.leads) at r.accepted.here in
        omega (arith, has-and (acc img r.q) (sought img s) t, a, r.is_sought)

    pub one_terminal : {t u start size n s : ℕ} → RightMatch img text t start size s → RightMatch img text u start n s → t ≡ u
    one_terminal r k =
        let e = same_last k.last r.last in
        one_chosen r.one (rw e at k.one) (in_set r) (rw e at (in_set k))

    pub no_blank : {t place n size s : ℕ} → RightLeaf img text t place n s → Blank img text s place size → ⊥
    no_blank r b =
        let h = rw (← one_terminal r.right b.right) at b.is_layout in
        omega (arith, h, r.not_layout)

    -- Where nothing that is sought is matched there is neither; and nothing at the end.
    pub no_match : {t place size s : ℕ} → NoMatch img (drop place text) (sought img s) → RightMatch img text t place size s → ⊥
    no_match {t = t} {size = size} n r =
        let z = ap (λ (x : ℕ). has x t) (n.only_rejects size r.q r.last) in
        omega (arith, z, has_none t, in_set r)

    pub no_bytes : {place v n q : ℕ} → length text ≤ place → Last img (drop place text) v n q → ⊥
    no_bytes {place = place} l k = omega (arith, l, k.within, length-drop place text, some_bytes good k)

    no_blank_token : {place size s t : ℕ} → Token img text s place t → Blank img text s place size → ⊥
    no_blank_token (word n r) b = no_blank r b
    no_blank_token (at_end_of_text l) b = no_bytes l b.right.last

    one_token : {place s t u : ℕ} → Token img text s place t → Token img text s place u → t ≡ u
    one_token (word n r) (word m k) = one_terminal r.right k.right
    one_token (word n r) (at_end_of_text l) = absurd (no_bytes l r.right.last)
    one_token (at_end_of_text l) (word n r) = absurd (no_bytes l r.right.last)
    one_token (at_end_of_text l) (at_end_of_text k) = refl

    -- One step.
    pub one_step : {a b c : Reached} → Acts img text a b → Acts img text a c → b ≡ c
    one_step {a} (skips n x) (skips m y) = ap (λ (k : ℕ). reached a.stack a.words (a.place + k)) (one_last x.right.last y.right.last)
    one_step (skips n x) (shifts t m v r e) = absurd (no_blank r x)
    one_step (skips n x) (reduces t p v k e l g) = absurd (no_blank_token k x)
    one_step (shifts t m v r e) (skips n x) = absurd (no_blank r x)
    one_step (shifts t n v r e) (shifts u m w k f) =
        let et = one_terminal r.right k.right in
        let en = one_last r.right.last k.right.last in
        let f' = rw (← et) at f in
        let ev : v ≡ w = omega (arith, e, f') in
        rw (et, en, ev) refl
    one_step (shifts t n v r e) (reduces u p w k f l g) =
        let f' = rw (← one_token (word n r) k) at f in
        absurd (omega (arith, e, f'))
    one_step (reduces t p v k e l g) (skips n x) = absurd (no_blank_token k x)
    one_step (reduces t p v k e l g) (shifts u n w r f) =
        let f' = rw (← one_token k (word n r)) at f in
        absurd (omega (arith, e, f'))
    one_step (reduces t p v k e l g) (reduces u o w j f m h) =
        let f' = rw (← one_token k j) at f in
        let ep : p ≡ o = omega (arith, e, f') in
        let h' = rw (← ep) at h in
        let ev : v ≡ w = omega (arith, g, h') in
        rw (ep, ev) refl

    -- Two ways: one of them goes on from the other.
    pub along : {a b : Reached} → Way img text a → Way img text b → Onward img text a b ⊎ Onward img text b a
    along begin w = inl (from_start w)
    along (on {a = a} {b = b} u x) w = go x (along u w)
      where
        go : {c : Reached} → Acts img text a b → Onward img text a c ⊎ Onward img text c a → Onward img text b c ⊎ Onward img text c b
        go y (inl same) = inr (next y same)
        go y (inl (next z o)) = inl (rw (one_step z y) at o)
        go y (inr o) = inr (then_on o y)

    pub one_way : {a b : Reached} → Way img text a → Stops img text a → Way img text b → Stops img text b → a ≡ b
    one_way {a} {b} u x w y = go (along u w)
      where
        go : Onward img text a b ⊎ Onward img text b a → a ≡ b
        go (inl o) = one_end o x
        go (inr o) = sym (one_end o y)

    -- There is no step from where a parse accepts, and none from where no token is found.
    pub accepts_stops : {s place : ℕ} {rest words : List ℕ} → length text ≤ place → act img s 0 ≡ 1 → Stops img text (reached (s ∷ rest) words place)
    accepts_stops {s} {place} {rest} {words} l e = record { no_step = λ b x. go x }
      where
        go : {b : Reached} → Acts img text (reached (s ∷ rest) words place) b → ⊥
        go (skips n x) = no_bytes l x.right.last
        go (shifts t n v r f) = no_bytes l r.right.last
        go (reduces t p v (word n r) f k g) = no_bytes l r.right.last
        go (reduces t p v (at_end_of_text m) f k g) = omega (arith, e, f)

    unmatched : {s place : ℕ} {rest words : List ℕ} → place < length text → NoMatch img (drop place text) (sought img s)
        → Stops img text (reached (s ∷ rest) words place)
    unmatched {s} {place} {rest} {words} l m = record { no_step = λ b x. go x }
      where
        go : {b : Reached} → Acts img text (reached (s ∷ rest) words place) b → ⊥
        go (skips n x) = no_match m x.right
        go (shifts t n v r f) = no_match m r.right
        go (reduces t p v (word n r) f k g) = no_match m r.right
        go (reduces t p v (at_end_of_text h) f k g) = omega (arith, l, h)

    pub none_stops : {s place : ℕ} {rest words : List ℕ} → NoTerminal img text s place → Stops img text (reached (s ∷ rest) words place)
    none_stops n = unmatched n.before_end n.none_sought

    pub other_stops : {s place size terminal : ℕ} {rest words : List ℕ} → Unexpected img text s place size terminal → Stops img text (reached (s ∷ rest) words place)
    other_stops {s} {place} {rest = rest} {words = words} (at_end l e i) = record { no_step = λ b x. go x }
      where
        go : {b : Reached} → Acts img text (reached (s ∷ rest) words place) b → ⊥
        go (skips n x) = no_bytes l x.right.last
        go (shifts t n v r f) = no_bytes l r.right.last
        go (reduces t p v (word n r) f k g) = no_bytes l r.right.last
        go (reduces t p v (at_end_of_text m) f k g) = omega (arith, e, f)
    other_stops (instead size terminal q l n last a b c d) = unmatched l n
