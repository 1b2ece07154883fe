-- For a pack of good shape: if K2 holds, a scan ends at the last length at which some valid terminal is accepted or rejected on reading
-- on, and gives no match where that place only rejects; if K1 holds too, what is accepted there is outranked by nothing that matches the
-- same bytes. Assumes nothing.
use mathlib.Core.Path.{◌≡◌, refl, sym, ap, ◌∙◌}
use mathlib.Core.Bool.{Bool, true, false}
use mathlib.Core.List.{List, [], ◌∷◌}
use Prim.Native.Nat.{ℕ, zero, suc, ◌+◌, ◌<◌, ◌≤◌, ◌^◌}
use native.Mathlib.Nat.{zero-add}
use native.Mathlib.Omega.{arith}
use lib.Dec.{eqb, ltb}
use lib.ListN.{length, take}
use lib.Bits.{bit_and, bit_or, and_zero_l, and_le_l, or_lt}
use borrow.Author.Tests.{eq-eqb, eqb-true, eqb-false, ltb-true, ltb-false}
use Rattle.sets.specs.Sets.{has, is_empty}
use Rattle.sets.proofs.Laws.{has-lt, has_none, has-and, has-or, empty}
use Rattle.numbers.specs.Verdicts.{Good}
use Rattle.pack.specs.Image.{terminals, scan_states, class_of, dom, move, acc, rej, poss}
use Rattle.shape.specs.Shape.{shape}
use Rattle.shape.proofs.Good.{good_laid, good_move, good_class, good_acc, good_rej, good_disjoint, good_start}
use Rattle.scan.specs.declared.Remembered.{Remembered}
use Rattle.scan.specs.Scan.{Stop}
use Rattle.scan.specs.Scan.{nothing, remember, scan_from, scan}
use Rattle.scan.specs.Matching.{led_from, Last}
use Rattle.conditions.specs.Conditions.{Subset, matched, K1, K2}
use Rattle.scan.proofs.Theory.{Way, nowhere, no_way, spent, goes, way, at_end}

-- What is in neither of two sets is not in their union, and the other way round.
union_none : (k a r v : ℕ) → a < 2 ^ k → r < 2 ^ k → bit_and (bit_or a r) v ≡ 0 → (bit_and a v ≡ 0) × (bit_and r v ≡ 0)
union_none k a r v la lr e = (
  empty k (bit_and a v) (omega (arith, and_le_l a v)) (λ t l. none t),
  empty k (bit_and r v) (omega (arith, and_le_l r v)) (λ t l. none' t),
)
  where
    both : (t : ℕ) → has (bit_and (bit_or a r) v) t ≡ 0
    both t = ap (λ (x : ℕ). has x t) e ∙ has_none t

    none : (t : ℕ) → has (bit_and a v) t ≡ 0
    none t = omega (arith, both t, has-and (bit_or a r) v t, has-or a r t, has-and a v t)

    none' : (t : ℕ) → has (bit_and r v) t ≡ 0
    none' t = omega (arith, both t, has-and (bit_or a r) v t, has-or a r t, has-and r v t)

union_some : (k a r v : ℕ) → a < 2 ^ k → r < 2 ^ k → bit_and a v ≡ 0 → bit_and r v ≡ 0 → bit_and (bit_or a r) v ≡ 0
union_some k a r v la lr ea er =
    empty k (bit_and (bit_or a r) v) (omega (arith, and_le_l (bit_or a r) v, or_lt k a r la lr))
    (λ t l. omega (arith, has-and (bit_or a r) v t, has-or a r t, has-and a v t, has-and r v t, ap (λ (x : ℕ). has x t) ea, ap (λ (x : ℕ). has x t) er, has_none t))

-- A part of a set that misses v misses v.
part_none : (k a b v : ℕ) → a < 2 ^ k → Subset a b → bit_and b v ≡ 0 → bit_and a v ≡ 0
part_none k a b v la s e = empty k (bit_and a v) (omega (arith, and_le_l a v)) (λ t l. go t (has a t) refl)
  where
    go : (t x : ℕ) → has a t ≡ x → has (bit_and a v) t ≡ 0
    go t zero f = omega (arith, has-and a v t)
    go t (suc zero) f = omega (arith, has-and a v t, has-and b v t, s.each t f, ap (λ (x : ℕ). has x t) e, has_none t, has-lt v t)
    go t (suc (suc x)) f = absurd (omega (arith, has-lt a t))

module _ (img : List ℕ) (good : shape img ≡ Good) (k2 : (q : ℕ) → q < scan_states img → K2 img q) (v : ℕ) where
  below : (q : ℕ) → q < scan_states img → matched img q < 2 ^ terminals img
  below q l = or_lt (terminals img) (acc img q) (rej img q) (good_acc img good q l).0 (good_rej img good q l).0

  next_below : (q b p : ℕ) → q < scan_states img → move img q (class_of img b) ≡ suc p → p < scan_states img
  next_below q b p l e = omega (arith, e, good_move img good q (class_of img b) l (good_class img good b))

  -- What is possible later is possible now.
  later : (bytes : List ℕ) (q p : ℕ) → q < scan_states img → led_from img q bytes ≡ suc p → (p < scan_states img) × Subset (poss img p) (poss img q)
  unfolding led_from
  later [] q p l e = let z : q ≡ p = cc in (omega arith, record { each = λ t h. rw z h })
  later (b ∷ bytes) q p l e = go (later bytes) (move img q (class_of img b)) refl e
    where
      go : ((r s : ℕ) → r < scan_states img → led_from img r bytes ≡ suc s → (s < scan_states img) × Subset (poss img s) (poss img r))
          → (m : ℕ) → move img q (class_of img b) ≡ m → elim m as (λ x. ℕ) [ zero ↦ 0 | suc r ↦ led_from img r bytes ] ≡ suc p
          → (p < scan_states img) × Subset (poss img p) (poss img q)
      go ih zero f g = absurd (omega arith)
      go ih (suc r) f g =
          let h = next_below q b r l f in
          let i = ih r p h g in
          (i.0, record { each = λ t x. ((k2 q l).later (class_of img b) r (good_class img good b) (f ∙ one r)).each t (i.1.each t x) })
        where
          one : (x : ℕ) → suc x ≡ 1 + x
          one x = omega arith

  -- How a scan from state q on ends: nothing more of the valid set is accepted or rejected, or this is the last place where it is.
  data Result (bytes : List ℕ) (q n : ℕ) (kept : Remembered) (stop : Stop) : Type 0 where
    none : ((m p : ℕ) → 1 ≤ m → m ≤ length bytes → led_from img q (take m bytes) ≡ suc p → bit_and (matched img p) v ≡ 0)
        → stop.set ≡ kept.set → stop.length ≡ kept.length → Result bytes q n kept stop
    last : (m p : ℕ) → 1 ≤ m → m ≤ length bytes → led_from img q (take m bytes) ≡ suc p → (bit_and (matched img p) v ≡ 0 → ⊥)
        → ((k r : ℕ) → m < k → k ≤ length bytes → led_from img q (take k bytes) ≡ suc r → bit_and (matched img r) v ≡ 0)
        → stop.set ≡ bit_and (acc img p) v → ((stop.set ≡ 0 → ⊥) → stop.length ≡ n + m) → Result bytes q n kept stop

  -- What is remembered in a state that accepts or rejects something valid, and in one that does not.
  remember_hit : (p n : ℕ) (kept : Remembered) → p < scan_states img → (bit_and (matched img p) v ≡ 0 → ⊥)
      → ((remember (bit_and (acc img p) v) (bit_and (rej img p) v) n kept).set ≡ bit_and (acc img p) v)
      × (((remember (bit_and (acc img p) v) (bit_and (rej img p) v) n kept).set ≡ 0 → ⊥) → (remember (bit_and (acc img p) v) (bit_and (rej img p) v) n kept).length ≡ n)
  unfolding remember is_empty
  remember_hit p n kept l h = go (eqb (bit_and (acc img p) v) 0) refl (eqb (bit_and (rej img p) v) 0) refl
    where
      go : (x : Bool) → eqb (bit_and (acc img p) v) 0 ≡ x → (y : Bool) → eqb (bit_and (rej img p) v) 0 ≡ y
          → ((remember (bit_and (acc img p) v) (bit_and (rej img p) v) n kept).set ≡ bit_and (acc img p) v)
          × (((remember (bit_and (acc img p) v) (bit_and (rej img p) v) n kept).set ≡ 0 → ⊥) → (remember (bit_and (acc img p) v) (bit_and (rej img p) v) n kept).length ≡ n)
      go false e y f = simp (remember, is_empty, e) (refl, λ z. refl)
      go true e false f = simp (remember, is_empty, e, f) (sym (eqb-true _ _ e), λ z. absurd (z refl))
      go true e true f =
          absurd (h (union_some (terminals img) (acc img p) (rej img p) v (good_acc img good p l).0 (good_rej img good p l).0 (eqb-true _ _ e) (eqb-true _ _ f)))

  remember_miss : (p n : ℕ) (kept : Remembered) → p < scan_states img → bit_and (matched img p) v ≡ 0
      → remember (bit_and (acc img p) v) (bit_and (rej img p) v) n kept ≡ kept
  unfolding remember is_empty
  remember_miss p n kept l h =
      let u = union_none (terminals img) (acc img p) (rej img p) v (good_acc img good p l).0 (good_rej img good p l).0 h in
      simp (remember, is_empty, eq-eqb _ _ u.0, eq-eqb _ _ u.1)

  -- From one byte on: where the moves on b lead from q to p.
  step_led : (b : ℕ) (bytes : List ℕ) (q p : ℕ) → move img q (class_of img b) ≡ suc p → led_from img q (b ∷ bytes) ≡ led_from img p bytes
  unfolding led_from
  step_led b bytes q p e = simp (led_from, e)

  no_led : (b : ℕ) (bytes : List ℕ) (q : ℕ) → move img q (class_of img b) ≡ 0 → led_from img q (b ∷ bytes) ≡ 0
  unfolding led_from
  no_led b bytes q e = simp (led_from, e)

  nil_led : (p : ℕ) → led_from img p [] ≡ suc p
  unfolding led_from
  nil_led p = refl

  same_state : {p s : ℕ} → suc p ≡ suc s → p ≡ s
  same_state e = omega arith

  -- Nothing valid is possible any more.
  nothing_later : (bytes : List ℕ) (q p : ℕ) → q < scan_states img → bit_and (poss img q) v ≡ 0 → led_from img q bytes ≡ suc p → bit_and (matched img p) v ≡ 0
  nothing_later bytes q p l e f =
      let r = later bytes q p l f in
      part_none (terminals img) (matched img p) (poss img q) v (below p r.0) (record { each = λ t h. r.1.each t ((k2 p r.0).now.each t h) }) e

  module _ (allowance : ℕ) where
    -- One byte more.
    ahead : (b : ℕ) (bytes : List ℕ) (q n p : ℕ) (kept : Remembered) (stop : Stop) → q < scan_states img → move img q (class_of img b) ≡ suc p
        → Result bytes p (n + 1) (remember (bit_and (acc img p) v) (bit_and (rej img p) v) (n + 1) kept) stop → Result (b ∷ bytes) q n kept stop
    ahead b bytes q n p kept stop l e (last m r lm lw led here after es el) =
        last (suc m) r (omega arith) (omega arith) (step_led b (take m bytes) q p e ∙ led) here
        (λ k s. later_ones k s) es (λ z. el z ∙ sum)
      where
        sum : n + 1 + m ≡ n + suc m
        sum = omega arith

        later_ones : (k s : ℕ) → suc m < k → k ≤ suc (length bytes) → led_from img q (take k (b ∷ bytes)) ≡ suc s → bit_and (matched img s) v ≡ 0
        later_ones zero s h w f = absurd (omega arith)
        later_ones (suc k) s h w f = after k s (omega arith) (omega arith) (sym (step_led b (take k bytes) q p e) ∙ f)
    ahead b bytes q n p kept stop l e (none still es el) = go (eqb (bit_and (matched img p) v) 0) refl
      where
        lp : p < scan_states img
        lp = next_below q b p l e

        none_after : (k s : ℕ) → 1 < k → k ≤ suc (length bytes) → led_from img q (take k (b ∷ bytes)) ≡ suc s → bit_and (matched img s) v ≡ 0
        none_after zero s h w f = absurd (omega arith)
        none_after (suc k) s h w f = still k s (omega arith) (omega arith) (sym (step_led b (take k bytes) q p e) ∙ f)

        first : (s : ℕ) → led_from img q (take 1 (b ∷ bytes)) ≡ suc s → p ≡ s
        first s f = same_state (sym (nil_led p) ∙ sym (step_led b [] q p e) ∙ f)

        go : (x : Bool) → eqb (bit_and (matched img p) v) 0 ≡ x → Result (b ∷ bytes) q n kept stop
        go false f =
            let hit = remember_hit p (n + 1) kept lp (eqb-false _ _ f) in
            last 1 p (omega arith) (omega arith) (step_led b [] q p e ∙ nil_led p) (eqb-false _ _ f) none_after
            (es ∙ hit.0) (λ z. el ∙ hit.1 (λ y. z (es ∙ y)))
        go true f =
            let miss = remember_miss p (n + 1) kept lp (eqb-true _ _ f) in
            none (λ m s. all m s) (es ∙ ap (λ (k : Remembered). k.set) miss) (el ∙ ap (λ (k : Remembered). k.length) miss)
          where
            all : (m s : ℕ) → 1 ≤ m → m ≤ suc (length bytes) → led_from img q (take m (b ∷ bytes)) ≡ suc s → bit_and (matched img s) v ≡ 0
            all zero s h w g = absurd (omega arith)
            all (suc zero) s h w g = rw (first s g) at (eqb-true (bit_and (matched img p) v) 0 f)
            all (suc (suc m)) s h w g = none_after (suc (suc m)) s (omega arith) w g

    ends : (bytes : List ℕ) (left q n : ℕ) (kept : Remembered) → q < scan_states img → (scan_from img v left bytes q n kept).spent ≡ false
        → Result bytes q n kept (scan_from img v left bytes q n kept)
    ends [] left q n kept l e = rw (at_end img v left q n kept) (none (λ m p h w. absurd (omega arith)) refl refl)
    ends (b ∷ bytes) left q n kept l e = go (ends bytes) (way img v left b bytes q n kept) e
      where
        go : ((k r m : ℕ) (w : Remembered) → r < scan_states img → (scan_from img v k bytes r m w).spent ≡ false → Result bytes r m w (scan_from img v k bytes r m w))
            → Way img v left b bytes q n kept → (scan_from img v left (b ∷ bytes) q n kept).spent ≡ false
            → Result (b ∷ bytes) q n kept (scan_from img v left (b ∷ bytes) q n kept)
        go ih (nowhere f g) s = rw g (none (λ m p h w. nothing_later (take m (b ∷ bytes)) q p l f) refl refl)
        go ih (no_way f g) s = rw g (none (λ m p. never m p) refl refl)
          where
            never : (m p : ℕ) → 1 ≤ m → m ≤ suc (length bytes) → led_from img q (take m (b ∷ bytes)) ≡ suc p → bit_and (matched img p) v ≡ 0
            never zero p h w x = absurd (omega arith)
            never (suc m) p h w x = absurd (omega (arith, sym (no_led b (take m bytes) q f) ∙ x))
        go ih (spent f g) s = let z : ◌≡◌ {A = ℕ} 0 1 = cc (ap (λ (t : Stop). t.spent) g) in absurd (omega arith)
        go ih (goes less p f m g) s =
            rw g
            (ahead b bytes q n p kept _ l m
            (ih less p (n + 1) (remember (bit_and (acc img p) v) (bit_and (rej img p) v) (n + 1) kept) (next_below q b p l m) (sym (ap (λ (t : Stop). t.spent) g) ∙ s)))

    -- A last place is past the first byte, since scan state 0 accepts and rejects nothing.
    some_bytes : (bytes : List ℕ) (n q : ℕ) → Last img bytes v n q → 1 ≤ n
    some_bytes bytes zero q l = absurd (l.here (start q l.leads.way))
      where
        start : (s : ℕ) → led_from img 0 [] ≡ suc s → bit_and (matched img s) v ≡ 0
        start s e =
            let z : 0 ≡ s = same_state (sym (nil_led 0) ∙ e) in
            let b = good_start img good in
            rw (← z) (union_some (terminals img) (acc img 0) (rej img 0) v (good_acc img good 0 first).0 (good_rej img good 0 first).0 (rw b.0 (and_zero_l v)) (rw b.1 (and_zero_l v)))
          where
            first : 0 < scan_states img
            first = omega (arith, good_laid img good)
    some_bytes bytes (suc n) q l = omega arith

    -- A match ends at the last place, and is what is accepted of the valid set there.
    pub match_is_last : (bytes : List ℕ) → (scan img v allowance bytes).spent ≡ false → ((scan img v allowance bytes).set ≡ 0 → ⊥)
        → (q : ℕ) × Last img bytes v (scan img v allowance bytes).length q × ((scan img v allowance bytes).set ≡ bit_and (acc img q) v)
    match_is_last bytes e h = go (ends bytes allowance 0 0 nothing (omega (arith, good_laid img good)) e)
      where
        go : Result bytes 0 0 nothing (scan img v allowance bytes)
            → (q : ℕ) × Last img bytes v (scan img v allowance bytes).length q × ((scan img v allowance bytes).set ≡ bit_and (acc img q) v)
        go (none f es el) = absurd (h es)
        go (last m p lm lw led here after es el) =
            let z : (scan img v allowance bytes).length ≡ m = el h ∙ zero-add m in (
              p,
              rw z (record { within = lw; leads = record { way = led }; here = here; after = λ k r l w f. after k r l w f.way }),
              es,
            )

    -- Where there is no match, the last place, if there is one, only rejects.
    pub no_match_rejects : (bytes : List ℕ) → (scan img v allowance bytes).spent ≡ false → (scan img v allowance bytes).set ≡ 0
        → (n q : ℕ) → Last img bytes v n q → bit_and (acc img q) v ≡ 0
    no_match_rejects bytes e h n q l = go (ends bytes allowance 0 0 nothing (omega (arith, good_laid img good)) e)
      where
        go : Result bytes 0 0 nothing (scan img v allowance bytes) → bit_and (acc img q) v ≡ 0
        go (none f es el) = absurd (l.here (f n q (some_bytes bytes n q l) l.within l.leads.way))
        go (last m p lm lw led here after es el) = compare (ltb n m) refl (ltb m n) refl
          where
            compare : (x : Bool) → ltb n m ≡ x → (y : Bool) → ltb m n ≡ y → bit_and (acc img q) v ≡ 0
            compare true f y g = absurd (here (l.after m p (ltb-true n m f) lw (record { way = led })))
            compare false f true g = absurd (l.here (after n q (ltb-true m n g) l.within l.leads.way))
            compare false f false g =
                let z : n ≡ m = omega (arith, ltb-false n m f, ltb-false m n g) in
                let s : q ≡ p = same_state (sym l.leads.way ∙ ap (λ (k : ℕ). led_from img 0 (take k bytes)) z ∙ led) in
                rw s (sym es ∙ h)

-- If K1 holds, what is accepted after some bytes is outranked by nothing that matches the same bytes.
pub accepted_alone : (img : List ℕ) → shape img ≡ Good → (q : ℕ) → q < scan_states img → K1 img q → (t u : ℕ) → t < terminals img → has (acc img q) t ≡ 1
    → has (dom img t) u ≡ 1 → has (matched img q) u ≡ 1 → ⊥
accepted_alone img good q l k t u lt a d m =
    let r = k.outranked t lt (record { matches = omega (arith, has-or (acc img q) (rej img q) t, has-lt (rej img q) t); by = u; outranks = d; matches_too = m }) in
    omega (arith, has-and (acc img q) (rej img q) t, ap (λ (x : ℕ). has x t) (good_disjoint img good q l), has_none t)
