-- Layout does not win by coming first, for all packs that pass: neither a piece of layout nor a leaf is shorter than another match
-- there; and where an operator and a comment begin alike, and the operator is allowed and longer, the operator is read. Assumes nothing.
use mathlib.Core.Path.{◌≡◌, refl}
use mathlib.Core.Bool.{Bool, true, false}
use mathlib.Core.Logic.{◌⊎◌, inl, inr}
use mathlib.Core.List.{List, ◌∷◌, ◌++◌}
use Prim.Native.Nat.{ℕ, zero, suc, ◌+◌, ◌*◌, ◌<◌, ◌≤◌}
use native.Mathlib.Omega.{arith}
use lib.Dec.{eqb}
use lib.ListN.{length, drop, length-drop}
use lib.Bits.{bit_and, and_le_l}
use borrow.Author.Tests.{eqb-true, eqb-false}
use Rattle.sets.specs.Sets.{has, meet}
use Rattle.sets.proofs.Laws.{has-lt, has-and, has-or, empty}
use Rattle.pack.specs.Image.{terminals, scan_states, layout, act, acc, rej, valid_set}
use Rattle.pack.proofs.Valid.{valid_cell}
use Rattle.shape.proofs.Good.{good_acc}
use Rattle.conditions.specs.Conditions.{Passes, matched, sought}
use Rattle.scan.specs.Matching.{Leads, Matches, Last}
use Rattle.scan.proofs.Matching.{same_state, one_last, led, some_bytes}
use Rattle.scan.proofs.Longest.{accepted_alone}
use Rattle.look.specs.declared.Spot.{Spot}
use Rattle.look.specs.Look.{Looked}
use Rattle.parse.specs.Leaf.{part}
use Rattle.parse.specs.Parse.{leaf_record, Ending}
use Rattle.promise.specs.Cover.{alone, RightLeaf, Blank, Blanks, none, more}
use Rattle.promise.specs.Refusal.{at_end, instead}
use Rattle.promise.specs.Promised.{Accepted, Refused}
use Rattle.promise.specs.RightLook.{Sees, RightLook}
use Rattle.promise.specs.RightLook as Sight
use Rattle.promise.specs.Together.{Competes, allowed, as_layout, Longest, Reads, finds, cut_short}
use Rattle.promise.specs.Way.{Reached, reached, shifts, Way}
use Rattle.promise.proofs.Matching.{some_matched, matched_below}
use Rattle.promise.proofs.Others.{not_layout}
use Rattle.promise.proofs.Ways.{Onward, same, next, further, along, one_step, one_terminal, no_blank, no_match, no_bytes}
use Rattle.promise.proofs.Letter.{no_shorter}

-- What competes is what is scanned for.
sought_of : {img : List ℕ} {s t : ℕ} → Competes img s t → has (sought img s) t ≡ 1
sought_of {img} {s} {t} (allowed h) = omega (arith, h, has-or (valid_set img s) (layout img) t, has-lt (layout img) t)
sought_of {img} {s} {t} (as_layout h) = omega (arith, h, has-or (valid_set img s) (layout img) t, has-lt (valid_set img s) t)

competes : {img : List ℕ} {s t : ℕ} → has (sought img s) t ≡ 1 → Competes img s t
competes {img} {s} {t} h = go (has (valid_set img s) t) refl
  where
    go : (x : ℕ) → has (valid_set img s) t ≡ x → Competes img s t
    go zero e = as_layout (omega (arith, e, h, has-or (valid_set img s) (layout img) t))
    go (suc zero) e = allowed e
    go (suc (suc x)) e = absurd (omega (arith, e, has-lt (valid_set img s) t))

-- Layout is not skipped where something longer matches; and no leaf is read there.
pub blank_longest : {img text : List ℕ} {s start size : ℕ} → Blank img text s start size → (t n : ℕ) → Competes img s t → n ≤ length (drop start text)
    → Matches img (part text start n) t → n ≤ size
blank_longest b t n d l m = no_shorter b.right n t l (sought_of d) m

pub leaf_longest : {img text : List ℕ} {terminal start size s : ℕ} → RightLeaf img text terminal start size s → (t n : ℕ) → Competes img s t
    → n ≤ length (drop start text) → Matches img (part text start n) t → n ≤ size
leaf_longest r t n d l m = no_shorter r.right n t l (sought_of d) m

module _ (img : List ℕ) (passes : Passes img) (text : List ℕ) where
  -- The longest operator is the right leaf.
  pub longest_right : {operator start size s : ℕ} → Longest img text operator start size s → RightLeaf img text operator start size s
  longest_right {operator} {start} {size} {s} o =
      record {
        right = record {
          is_state = o.is_state;
          some = some_bytes passes.good last;
          q = q;
          last = last;
          is_sought = is_sought;
          accepted = o.accepted;
          not_outranked = λ u d k.
              accepted_alone img passes.good q lq (passes.k1 q lq) operator u cell.0 o.accepted.here d
              (rw (same_state k.leads o.accepted.leads) at k.here);
          one = alone (λ t h. only t h (eqb t operator) refl);
        };
        valid = o.is_allowed;
        not_end = λ z. let a = rw z at o.accepted.here in omega (arith, a, (good_acc img passes.good q lq).1);
        not_layout = not_layout img passes.good s operator o.is_state cell.0 cell.1;
      }
    where
      q : ℕ
      q = o.accepted.state

      lq : q < scan_states img
      lq = led img passes.good o.accepted.leads

      cell : (operator < terminals img) × (act img s operator ≡ 0 → ⊥)
      cell = valid_cell img s operator o.is_allowed

      is_sought : has (sought img s) operator ≡ 1
      is_sought = sought_of (allowed o.is_allowed)

      -- What matches of the sought matches at this length or before it.
      before : (m p t : ℕ) → m ≤ length (drop start text) → Leads img (part text start m) p → has (sought img s) t ≡ 1 → has (matched img p) t ≡ 1
          → (x : Bool) → eqb t operator ≡ x → m ≤ size
      before m p t w k d h true e =
          let a = rw (eqb-true t operator e) at h in
          o.no_longer m w (record { state = p; leads = k; here = a })
      before m p t w k d h false e =
          let l = o.others_shorter t m (eqb-false t operator e) (competes d) w (record { state = p; leads = k; here = h }) in
          omega arith

      after : (m p : ℕ) → size < m → m ≤ length (drop start text) → Leads img (part text start m) p → meet (matched img p) (sought img s) ≡ 0
      after m p l w k =
          empty (terminals img) (bit_and (matched img p) (sought img s)) (omega (arith, and_le_l (matched img p) (sought img s), matched_below img passes.good p (led img passes.good k)))
          (λ t h. go t (has (bit_and (matched img p) (sought img s)) t) refl)
        where
          go : (t x : ℕ) → has (bit_and (matched img p) (sought img s)) t ≡ x → has (bit_and (matched img p) (sought img s)) t ≡ 0
          go t zero e = e
          go t (suc zero) e =
              let b = has-and (matched img p) (sought img s) t in
              let h : has (matched img p) t ≡ 1 = omega (arith, b, e, has-lt (matched img p) t, has-lt (sought img s) t) in
              let d : has (sought img s) t ≡ 1 = omega (arith, b, e, has-lt (matched img p) t, has-lt (sought img s) t) in
              let z = before m p t w k d h (eqb t operator) refl in
              absurd (omega arith)
          go t (suc (suc x)) e = absurd (omega (arith, e, has-lt (bit_and (matched img p) (sought img s)) t))

      last : Last img (drop start text) (sought img s) size q
      last = record { within = o.within; leads = o.accepted.leads; here = some_matched img q (sought img s) operator o.accepted.here is_sought; after = after }

      only : (t : ℕ) → has (meet (acc img q) (sought img s)) t ≡ 1 → (x : Bool) → eqb t operator ≡ x → t ≡ operator
      only t h true e = eqb-true _ _ e
      only t h false e =
          let b = has-and (acc img q) (sought img s) t in
          let a : has (matched img q) t ≡ 1 = omega (arith, b, h, has-lt (sought img s) t, has-lt (acc img q) t, has-or (acc img q) (rej img q) t, has-lt (rej img q) t) in
          let d : has (sought img s) t ≡ 1 = omega (arith, b, h, has-lt (sought img s) t, has-lt (acc img q) t) in
          let z = o.others_shorter t size (eqb-false _ _ e) (competes d) o.within (record { state = q; leads = o.accepted.leads; here = a }) in
          absurd (omega arith)

  -- Where a leaf is right no layout is skipped; and whatever sees rightly, reads it.
  pub nothing_skipped : {t start n size s : ℕ} → RightLeaf img text t start size s → Blank img text s start n → ⊥
  nothing_skipped r b = no_blank img passes.good text r b

  stays : {s from to : ℕ} → ((n : ℕ) → Blank img text s from n → ⊥) → Blanks img text s from to → to ≡ from
  stays f none = refl
  stays f (more size b x) = absurd (f size (rw (stays f b) at x))

  pub sees_leaf : {t start size s : ℕ} → RightLeaf img text t start size s → {l : Looked} → Sees img text s start l → Reads t start size l
  sees_leaf {t} {start} {size} {s} r = go
    where
      back : {to : ℕ} → Blanks img text s start to → to ≡ start
      back b = stays (λ n x. nothing_skipped r x) b

      go : {l : Looked} → Sees img text s start l → Reads t start size l
      go (Sight.token n u to b k) =
          let k' = rw (back b) at k in
          let et = one_terminal img passes.good text k'.right r.right in
          let en = one_last k'.right.last r.right.last in
          rw (et, en) (finds to (back b))
      go (Sight.end to b l) = let z = back b in let l' : length text ≤ start = omega (arith, z) in absurd (no_bytes img passes.good text l' r.right.last)
      go (Sight.none to b why) = absurd (no_match img passes.good text (rw (back b) at why.none_sought) r.right)
      go (Sight.other n u to b (at_end l e i)) = let z = back b in let l' : length text ≤ start = omega (arith, z) in absurd (no_bytes img passes.good text l' r.right.last)
      go (Sight.other n u to b (instead _ _ q l missing last v w a least)) = absurd (no_match img passes.good text (rw (back b) at missing) r.right)
      go (Sight.spent to b) = cut_short to (back b)

  -- By every right look.
  pub leaf_read : {Fits : ℕ → Spot → Type 0} {looks : ℕ → Spot → Looked} → RightLook img text Fits looks → {t size s : ℕ} (at : Spot) → Fits s at
      → RightLeaf img text t at.place size s → Reads t at.place size (looks s at)
  leaf_read right {s = s} at fits r = sees_leaf r (right.sees s at r.right.is_state fits)

  pub operator_read : {Fits : ℕ → Spot → Type 0} {looks : ℕ → Spot → Looked} → RightLook img text Fits looks → {operator size s : ℕ} (at : Spot) → Fits s at
      → Longest img text operator at.place size s → Reads operator at.place size (looks s at)
  operator_read right at fits o = leaf_read right at fits (longest_right o)

  -- Where the tables come there and shift it, its record is kept by every way that leads on past its start.
  kept_on : {t start size s : ℕ} {below words : List ℕ} (v : ℕ) → Way img text (reached (s ∷ below) words start) → RightLeaf img text t start size s
      → act img s t ≡ 2 + 2 * v → {b : Reached} → Way img text b → start < b.place → (rest : List ℕ) × (b.words ≡ (words ++ leaf_record t start size s) ++ rest)
  kept_on {t} {start} {size} {s} {below} {words} v way r e w l = go l (along img passes.good text way w)
    where
      go : {b : Reached} → start < b.place → Onward img text (reached (s ∷ below) words start) b ⊎ Onward img text b (reached (s ∷ below) words start)
          → (rest : List ℕ) × (b.words ≡ (words ++ leaf_record t start size s) ++ rest)
      go k (inl same) = absurd (omega (arith, k))
      go k (inl (next z o)) =
          let f = further (rw (one_step img passes.good text z (shifts t size v r e)) at o) in
          (f.more_words, f.front)
      go k (inr o) = absurd (omega (arith, k, (further o).no_less))

  -- So it is a leaf of every derivation, and of the trees of every parse that is refused further on.
  pub leaf_derived : {t start size s : ℕ} {below words all : List ℕ} (v : ℕ) → Way img text (reached (s ∷ below) words start) → RightLeaf img text t start size s
      → act img s t ≡ 2 + 2 * v → Accepted img text all → (rest : List ℕ) × (all ≡ (words ++ leaf_record t start size s) ++ rest)
  leaf_derived {start = start} v way r e a =
      kept_on v way r e a.way (omega (arith, r.right.some, r.right.last.within, length-drop start text))

  pub leaf_kept : {t start size s : ℕ} {below words : List ℕ} (v : ℕ) → Way img text (reached (s ∷ below) words start) → RightLeaf img text t start size s
      → act img s t ≡ 2 + 2 * v → {e : Ending} → Refused img text e → start < e.parsed.place
      → (rest : List ℕ) × (e.words ≡ (words ++ leaf_record t start size s) ++ rest)
  leaf_kept v way r e refused l = kept_on v way r e refused.way l
