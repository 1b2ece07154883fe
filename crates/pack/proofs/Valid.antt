-- Laws of the valid set: how `image::valid_set` finds it, column by column, and which terminals are in it. Assumes nothing.
use mathlib.Core.Path.{◌≡◌, refl, sym, ◌∙◌}
use mathlib.Core.List.{List}
use Prim.Native.Nat.{ℕ, zero, suc, ◌+◌, ◌-◌, ◌*◌, ◌/◌, ◌%◌, ◌^◌, ◌<◌, ◌≤◌}
use native.Mathlib.Nat.{add-zero, zero-add, pow-suc}
use native.Mathlib.Numerals.{add-one}
use native.Mathlib.Omega.{arith}
use lib.Pow.{pow-add, pow_mono}
use Rattle.sets.specs.Sets.{has, single}
use Rattle.sets.proofs.Laws.{has_none, has-zero, has-suc}
use Rattle.words.specs.Image.{terminals, act, valid_from, valid_set}

doubled : (t : ℕ) → 2 ^ (t + 1) ≡ 2 ^ t + 2 ^ t
doubled t = let d : 2 ^ (t + 1) ≡ 2 ^ t * 2 = pow-add 2 t 1 in omega arith

module _ (img : List ℕ) (s : ℕ) where
  -- What the columns from t on give is below the bit after them.
  pub valid_bound : (n t : ℕ) → valid_from img s n t + 2 ^ t ≤ 2 ^ (t + n)
  unfolding valid_from
  valid_bound zero t = rw (add-zero t) (omega arith)
  valid_bound (suc n) t = go (act img s t) refl (valid_bound n (t + 1))
    where
      go : (k : ℕ) → act img s t ≡ k → valid_from img s n (t + 1) + 2 ^ (t + 1) ≤ 2 ^ (t + 1 + n) → valid_from img s (suc n) t + 2 ^ t ≤ 2 ^ (t + suc n)
      go zero e ih = let z : t + suc n ≡ t + 1 + n = omega arith in rw z (simp (valid_from, e) (omega (arith, doubled t)))
      go (suc k) e ih = let z : t + suc n ≡ t + 1 + n = omega arith in rw z (simp (valid_from, e) (omega (arith, doubled t)))

  -- The valid set has no bit T or above.
  pub valid_lt : valid_set img s < 2 ^ terminals img
  valid_lt = let b = rw (zero-add (terminals img)) at (valid_bound (terminals img) 0) in omega (arith, b)

  -- The loop over the columns: what it has found, and what the columns from t on give, are the valid set.
  module _ (t set : ℕ) (es : set + valid_from img s (terminals img - t) t ≡ valid_set img s) where
    pub valid_end : terminals img ≤ t → set ≡ valid_set img s
    unfolding valid_from
    valid_end h =
        let z : terminals img - t ≡ 0 = omega arith in
        omega (arith, rw z at es)

    module _ (l : t < terminals img) (below : set < 2 ^ t) where
      pub valid_fits : terminals img ≤ 64 → single t + set < 18446744073709551616
      valid_fits h =
          let z : t + 1 ≤ 64 = omega arith in
          let w : 2 ^ (t + 1) ≤ 18446744073709551616 = pow_mono z in
          omega (arith, w, doubled t)

      pub valid_with : {cell now : ℕ} → cell ≡ act img s t → (cell ≡ 0 → now ≡ set) × ((cell ≡ 0 → ⊥) → now ≡ single t + set)
          → (now + valid_from img s (terminals img - (t + 1)) (t + 1) ≡ valid_set img s) × (now < 2 ^ (t + 1))
      unfolding valid_from
      valid_with {cell} {now} ec w =
          let z : terminals img - t ≡ suc (terminals img - (t + 1)) = omega arith in
          go cell refl (rw z at es)
        where
          go : (k : ℕ) → cell ≡ k → set + valid_from img s (suc (terminals img - (t + 1))) t ≡ valid_set img s
              → (now + valid_from img s (terminals img - (t + 1)) (t + 1) ≡ valid_set img s) × (now < 2 ^ (t + 1))
          go zero e f =
              let h = simp (valid_from, sym ec ∙ e) at f in
              (omega (arith, h, w.0 e), omega (arith, w.0 e, doubled t))
          go (suc k) e f =
              let h = simp (valid_from, sym ec ∙ e) at f in
              let x : now ≡ single t + set = w.1 (λ n. omega arith) in
              (omega (arith, h, x), omega (arith, x, doubled t))

  -- 1 for a cell that is not 0; and the set of the columns from t on, its lowest t bits shifted away.
  bit : ℕ → ℕ
  bit zero = 0
  bit (suc c) = 1

  upper : ℕ → ℕ → ℕ
  upper zero t = 0
  upper (suc n) t = bit (act img s t) + 2 * upper n (t + 1)

  upper_valid : (n t : ℕ) → valid_from img s n t ≡ 2 ^ t * upper n t
  unfolding valid_from upper bit
  upper_valid zero t = omega arith
  upper_valid (suc n) t = go (act img s t) refl (rw (add-one t, pow-suc 2 t) at (upper_valid n (t + 1)))
    where
      go : (c : ℕ) → act img s t ≡ c → valid_from img s n (suc t) ≡ 2 ^ t * 2 * upper n (suc t) → valid_from img s (suc n) t ≡ 2 ^ t * upper (suc n) t
      go zero e ih = simp (valid_from, upper, bit, e, add-one t) (omega arith)
      go (suc c) e ih = simp (valid_from, upper, bit, e, add-one t) (omega arith)

  upper_cell : (n t k : ℕ) → has (upper n t) k ≡ 1 → (k < n) × (act img s (t + k) ≡ 0 → ⊥)
  unfolding upper bit
  upper_cell zero t k e = absurd (omega (arith, has_none k))
  upper_cell (suc n) t zero e = (omega arith, λ z. go (act img s t) refl (rw (has-zero (upper (suc n) t)) at e) (rw (add-zero t) at z))
    where
      go : (c : ℕ) → act img s t ≡ c → (bit (act img s t) + 2 * upper n (t + 1)) % 2 ≡ 1 → act img s t ≡ 0 → ⊥
      go zero f g z = let h = rw (f, bit) at g in omega arith
      go (suc c) f g z = omega arith
  upper_cell (suc n) t (suc k) e =
      let i = upper_cell n (t + 1) k (rw (has-suc (upper (suc n) t) k, half) at e) in
      let z : t + 1 + k ≡ t + suc k = omega arith in
      (omega arith, rw z at i.1)
    where
      small : (c : ℕ) → bit c < 2
      small zero = omega arith
      small (suc c) = omega arith

      half : (bit (act img s t) + 2 * upper n (t + 1)) / 2 ≡ upper n (t + 1)
      half = omega (arith, small (act img s t))

  -- A terminal of the valid set is one of the T, and its cell is not 0.
  pub valid_cell : (t : ℕ) → has (valid_set img s) t ≡ 1 → (t < terminals img) × (act img s t ≡ 0 → ⊥)
  valid_cell t e =
      let z : 2 ^ 0 * upper (terminals img) 0 ≡ upper (terminals img) 0 = omega arith in
      let i = upper_cell (terminals img) 0 t (rw (upper_valid (terminals img) 0, z) at e) in
      (i.0, rw (zero-add t) at i.1)
