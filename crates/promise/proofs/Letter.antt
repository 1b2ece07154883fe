-- The letter's case, for all packs that pass: `group` is never read as the names `grou` and `p`. Neither a leaf nor a piece of layout ends
-- before a place where, reading on, a terminal valid in its state, or layout, is accepted or rejected; so where the longest name is outranked by a
-- keyword, allowed or not, none begins, and the parse is refused there. Assumes nothing.
use mathlib.Core.Path.{◌≡◌, refl, sym, ap, ◌∙◌}
use mathlib.Core.Bool.{Bool, true, false}
use mathlib.Core.Logic.{◌⊎◌, inl, inr}
use mathlib.Core.List.{List, [], ◌∷◌, append-nil}
use Prim.Native.Nat.{ℕ, ◌*◌, ◌<◌, ◌≤◌}
use native.Mathlib.Omega.{arith}
use lib.Dec.{ltb}
use lib.ListN.{length, drop}
use borrow.Author.Tests.{ltb-true, ltb-false}
use Rattle.sets.specs.Sets.{has}
use Rattle.sets.proofs.Laws.{has-lt, has_none, has-and, has-or}
use Rattle.pack.specs.Image.{acc, rej, dom, first_nonterminal}
use Rattle.conditions.specs.Conditions.{Passes, matched, sought}
use Rattle.scan.specs.Matching.{Matches}
use Rattle.parse.specs.Leaf.{part}
use Rattle.parse.specs.Parse.{Ending, record_words}
use Rattle.promise.specs.Cover.{RightMatch, Covers}
use Rattle.promise.specs.Refusal.{Outdone}
use Rattle.promise.specs.Promised.{Accepted, Refused, Promised, Halts}
use Rattle.promise.specs.Way.{word, at_end_of_text, Reached, reached, Acts, skips, shifts, reduces, Way}
use Rattle.scan.proofs.Matching.{one_last}
use Rattle.promise.proofs.Ways.{Onward, Stops, Further, further, no_bytes, along, one_end, one_way, accepts_stops, none_stops, other_stops}
use Rattle.promise.proofs.Records.{word_of, every_leaf}

-- What is right ends at no earlier place than one where a terminal valid in its state, or layout, matches.
pub no_shorter : {img text : List ℕ} {terminal start size s : ℕ} → RightMatch img text terminal start size s → (m t : ℕ) → m ≤ length (drop start text)
    → has (sought img s) t ≡ 1 → Matches img (part text start m) t → m ≤ size
no_shorter {img = img} {size = size} {s = s} r m t l v k = go (ltb size m) refl
  where
    go : (x : Bool) → ltb size m ≡ x → m ≤ size
    go false e = ltb-false _ _ e
    go true e =
        let z = ap (λ (x : ℕ). has x t) (r.last.after m k.state (ltb-true _ _ e) l k.leads) in
        absurd (omega (arith, z, has_none t, has-and (matched img k.state) (sought img s) t, k.here, v))

-- Where the last match of a state is outdone, nothing is right in that state.
pub none_there : {img text : List ℕ} {s start : ℕ} → Outdone img text s start → (terminal size : ℕ) → RightMatch img text terminal start size s → ⊥
none_there {img} {text} {s} {start} o terminal size r = at_last o.size (one_last r.last o.last) o.by
  where
    q : ℕ
    q = r.accepted.state

    matches : Matches img (part text start size) terminal
    matches = record {
      state = q;
      leads = r.accepted.leads;
      here = omega (arith, r.accepted.here, has-or (acc img q) (rej img q) terminal, has-lt (rej img q) terminal);
    }

    at_last : (n : ℕ) → size ≡ n
        → ((t : ℕ) → has (sought img s) t ≡ 1 → Matches img (part text start n) t → (u : ℕ) × (has (dom img t) u ≡ 1) × Matches img (part text start n) u) → ⊥
    at_last n z by = let b = (rw (← z) at by) terminal r.is_sought matches in r.not_outranked b.0 b.1 b.2

-- So the tables have no step there, and a parse gets no further, whatever its room and allowance: where these allow it to come there, it is
-- refused there with 7 or 8.
module _ (img : List ℕ) (passes : Passes img) (text : List ℕ) {s place : ℕ} {below words : List ℕ} (way : Way img text (reached (s ∷ below) words place))
    (outdone : Outdone img text s place) where
  stops : Stops img text (reached (s ∷ below) words place)
  stops = record { no_step = λ b x. go x }
    where
      go : {b : Reached} → Acts img text (reached (s ∷ below) words place) b → ⊥
      go (skips n x) = none_there outdone x.terminal n x.right
      go (shifts t n v r f) = none_there outdone t n r.right
      go (reduces t p v (word n r) f k g) = none_there outdone t n r.right
      go (reduces t p v (at_end_of_text l) f k g) = no_bytes img passes.good text l outdone.last

  pub halts : {e : Ending} → Promised img text e → Halts words place e
  halts {e} p =
      record {
        not_accepted = λ z. accepts (p.accepted z);
        front = λ l. let f = before (p.refused l) in (f.more_words, f.front);
        no_further = λ l. (before (p.refused l)).no_less;
        there_none = λ z.
            let r = p.refused (omega (arith, z)) in
            there r (none_stops img passes.good text (r.why_none z));
        there_other = λ z.
            let r = p.refused (omega (arith, z)) in
            there r (other_stops img passes.good text (r.why_other z));
      }
    where
      accepts : Accepted img text e.words → ⊥
      accepts a =
          let z = ap (λ (r : Reached). r.place)
          (one_way img passes.good text a.way (accepts_stops img passes.good text (omega arith) a.accepts) way stops) in
          let l : length text ≤ place = omega (arith, z) in
          no_bytes img passes.good text l outdone.last

      before : Refused img text e → Further (reached [] e.words e.parsed.place) (reached [] words place)
      before r = go (along img passes.good text r.way way)
        where
          a : Reached
          a = reached (r.state ∷ r.below) e.words e.parsed.place

          go : Onward img text a (reached (s ∷ below) words place) ⊎ Onward img text (reached (s ∷ below) words place) a
              → Further (reached [] e.words e.parsed.place) (reached [] words place)
          go (inl o) = let f = further o in record { more_words = f.more_words; front = f.front; no_less = f.no_less }
          go (inr o) =
              let z = one_end o stops in
              record {
                more_words = [];
                front = ap (λ (x : Reached). x.words) z ∙ sym (append-nil e.words);
                no_less = omega (arith, ap (λ (x : Reached). x.place) z);
              }

      there : (r : Refused img text e) → Stops img text (reached (r.state ∷ r.below) e.words e.parsed.place) → (e.parsed.place ≡ place) × (e.words ≡ words)
      there r x =
          let z = one_way img passes.good text r.way x way stops in
          (ap (λ (y : Reached). y.place) z, ap (λ (y : Reached). y.words) z)

-- .. and no record is a leaf from there on that was shifted in that state.
pub no_record_there : {img text words : List ℕ} {place s start : ℕ} → Outdone img text s start → Covers img text words place → (i : ℕ) → i * record_words < length words
    → word_of words i 0 < first_nonterminal → word_of words i 1 ≡ start → word_of words i 3 ≡ s → ⊥
no_record_there o c i l h a b = none_there o _ _ (rw (a, b) at (every_leaf c i l h)).right
