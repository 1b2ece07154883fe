-- Laws of the search for the class of a byte, which leaves fewer ranges with each step. Assumes nothing.
use mathlib.Core.Path.{◌≡◌, refl, sym, ap, ◌∙◌}
use mathlib.Core.Bool.{Bool, true, false}
use mathlib.Core.List.{List}
use Prim.Native.Nat.{ℕ, zero, suc, ◌+◌, ◌-◌, ◌/◌, ◌<◌, ◌≤◌}
use native.Mathlib.Nat.{add-zero, zero-add, not-suc-le-zero}
use native.Mathlib.Numerals.{add-one}
use native.Mathlib.Omega.{arith}
use lib.Dec.{leb, ltb}
use borrow.Author.Tests.{le-leb, lt-leb, leb-true, leb-false, ltb-true, ltb-false}
use Rattle.numbers.specs.Verdicts.{Good}
use Rattle.pack.specs.Image.{ranges, lo, hi, range_class, class_in, class_of}
use Rattle.shape.specs.Shape.{shape}
use Rattle.shape.proofs.Good.{good_range, good_above}
use Rattle.classes.specs.Ready.{Onward}

module _ (img : List ℕ) (b : ℕ) where
  -- Ranges that end below the byte are passed over.
  pub ends_below : (n i m : ℕ) → ((k : ℕ) → k < n → hi img (i + k) < b) → class_in img b (n + m) i ≡ class_in img b m (i + n)
  unfolding class_in
  ends_below zero i m h = rw (zero-add m, add-zero i)
  ends_below (suc n) i m h =
      let z : suc n + m ≡ suc (n + m) = omega arith in
      let y : i + suc n ≡ i + 1 + n = omega arith in
      let ends : hi img i < b = rw (add-zero i) at (h 0 (omega arith)) in
      rw (z, y) (go ends (ends_below n (i + 1) m (λ k l. let x : i + 1 + k ≡ i + suc k = omega arith in rw x (h (suc k) (omega arith)))) (leb (lo img i) b) refl)
    where
      go : hi img i < b → class_in img b (n + m) (i + 1) ≡ class_in img b m (i + 1 + n) → (x : Bool) → leb (lo img i) b ≡ x
          → class_in img b (suc (n + m)) i ≡ class_in img b m (i + 1 + n)
      go ends ih false e = simp (class_in, e) ih
      go ends ih true e = simp (class_in, e, lt-leb _ _ ends) ih

  -- Ranges that begin above the byte do not hold it.
  all_above : (m i : ℕ) → ((k : ℕ) → k < m → b < lo img (i + k)) → class_in img b m i ≡ 0
  unfolding class_in
  all_above zero i h = refl
  all_above (suc m) i h =
      let begins : b < lo img i = rw (add-zero i) at (h 0 (omega arith)) in
      simp (class_in, lt-leb _ _ begins)
      (all_above m (i + 1) (λ k l. let x : i + 1 + k ≡ i + suc k = omega arith in rw x (h (suc k) (omega arith))))

  -- Ranges behind the others that begin above the byte are left out.
  pub begins_above : (n i m : ℕ) → ((k : ℕ) → k < m → b < lo img (i + n + k)) → class_in img b (n + m) i ≡ class_in img b n i
  unfolding class_in
  begins_above zero i m h = rw (zero-add m) (all_above m i (rw (add-zero i) at h))
  begins_above (suc n) i m h =
      let z : suc n + m ≡ suc (n + m) = omega arith in
      rw z
      (go (begins_above n (i + 1) m (λ k l. let x : i + 1 + n + k ≡ i + suc n + k = omega arith in rw x (h k l))) (leb (lo img i) b) refl (leb b (hi img i)) refl)
    where
      go : class_in img b (n + m) (i + 1) ≡ class_in img b n (i + 1) → (x : Bool) → leb (lo img i) b ≡ x → (y : Bool) → leb b (hi img i) ≡ y
          → class_in img b (suc (n + m)) i ≡ class_in img b (suc n) i
      go ih false e y f = simp (class_in, e) ih
      go ih true e false f = simp (class_in, e, f) ih
      go ih true e true f = simp (class_in, e, f)

-- Ranges before another end below it.
pub before_ends : (img : List ℕ) → shape img ≡ Good → (r : ℕ) → r < ranges img → (j : ℕ) → j < r → hi img j < lo img r
before_ends img good zero l j h = absurd (not-suc-le-zero h)
before_ends img good (suc r) l j h = go (before_ends img good r (omega arith) j) (ltb j r) refl
  where
    above : hi img r < lo img (suc r)
    above = rw (add-one r) at (good_above img good r (omega arith))

    go : (j < r → hi img j < lo img r) → (x : Bool) → ltb j r ≡ x → hi img j < lo img (suc r)
    go ih true e = omega (arith, ih (ltb-true j r e), good_range img good r (omega arith), above)
    go ih false e = let z : j ≡ r = omega (arith, ltb-false j r e) in rw z above

-- Ranges from another on begin where it does, or above.
pub behind_begins : (img : List ℕ) → shape img ≡ Good → (r k : ℕ) → r + k < ranges img → lo img r ≤ lo img (r + k)
behind_begins img good r zero l = let z = add-zero r in rw z (omega arith)
behind_begins img good r (suc k) l = omega (arith, before_ends img good (r + suc k) l r (omega arith), good_range img good r (omega arith))

-- One step of the search: of so many ranges and w more, w are left.
module _ (img : List ℕ) (good : shape img ≡ Good) (b r by w : ℕ) (l : r + (by + w) ≤ ranges img) (h : by ≤ w) (some : 1 ≤ w) {s : ℕ} (on : Onward img b r by s) where
  pub fewer : (class_in img b (by + w) r ≡ class_in img b w s) × (s + w ≤ ranges img)
  fewer = go (leb (lo img (r + by)) b) refl
    where
      above : b < lo img (r + by) → (m : ℕ) → by + m ≤ by + w → (k : ℕ) → k < m → b < lo img (r + by + k)
      above e m n k p = omega (arith, e, behind_begins img good (r + by) k (omega arith))

      go : (x : Bool) → leb (lo img (r + by)) b ≡ x → (class_in img b (by + w) r ≡ class_in img b w s) × (s + w ≤ ranges img)
      go true e =
          let y = leb-true _ _ e in
          let z = on.later y in
          rw z (ends_below img b by r w (λ k p. omega (arith, y, before_ends img good (r + by) (omega arith) (r + k) (omega arith))), omega arith)
      go false e =
          let y = leb-false _ _ e in
          let z = on.here y in
          let x : w ≡ by + (w - by) = omega arith in
          rw z (begins_above img b by r w (above y w (omega arith)) ∙ sym (ap (λ (n : ℕ). class_in img b n r) x ∙ begins_above img b by r (w - by) (above y (w - by) (omega arith))), omega arith)

-- The first step: of all n ranges w are left.
module _ (img : List ℕ) (good : shape img ≡ Good) (b : ℕ) {n : ℕ} (e : n ≡ ranges img) (w : ℕ) (some : 1 ≤ w) (h : w < n) (m : n ≤ w + w) {s : ℕ}
    (on : Onward img b 0 (n - w) s) where
  pub first_step : (class_of img b ≡ class_in img b w s) × (s + w ≤ ranges img)
  first_step =
      let z : n - w + w ≡ ranges img = omega arith in
      let f = fewer img good b 0 (n - w) w (omega arith) (omega arith) some on in
      (ap (λ (k : ℕ). class_in img b k 0) (sym z) ∙ f.0, f.1)

-- Half of the ranges, rounded up, are left.
module _ (img : List ℕ) (good : shape img ≡ Good) (b r w : ℕ) (l : r + w ≤ ranges img) (t : 1 < w) {s : ℕ} (on : Onward img b r (w / 2) s) where
  pub halved : (1 ≤ w - w / 2) × (s + (w - w / 2) ≤ ranges img) × (class_in img b w r ≡ class_in img b (w - w / 2) s)
  halved =
      let z : w ≡ w / 2 + (w - w / 2) = omega arith in
      let f = fewer img good b r (w / 2) (w - w / 2) (omega arith) (omega arith) (omega arith) on in
      (omega arith, f.1, ap (λ (k : ℕ). class_in img b k r) z ∙ f.0)

-- One is left.
pub one_left : (img : List ℕ) (b r w : ℕ) {c x : ℕ} → 1 ≤ w → w ≤ 1 → x ≡ class_in img b w r → c ≡ class_in img b 1 r → c ≡ x
one_left img b r w h k e f =
    let z : w ≡ 1 = omega arith in
    f ∙ sym (e ∙ ap (λ (k : ℕ). class_in img b k r) z)

-- The last range that is left: the byte is below it, above it or in it.
module _ (img : List ℕ) (b r : ℕ) {l : ℕ} (el : l ≡ lo img r) where
  pub one_above : b < l → 0 ≡ class_in img b 1 r
  unfolding class_in
  one_above h = simp (class_in, ← el, lt-leb _ _ h)

  module _ (p : l ≤ b) {u : ℕ} (eu : u ≡ hi img r) where
    pub one_below : u < b → 0 ≡ class_in img b 1 r
    unfolding class_in
    one_below h = simp (class_in, ← el, le-leb _ _ p, ← eu, lt-leb _ _ h)

    pub one_holds : b ≤ u → {c : ℕ} → c ≡ range_class img r → c ≡ class_in img b 1 r
    unfolding class_in
    one_holds h ec = simp (class_in, ← el, le-leb _ _ p, ← eu, le-leb _ _ h, ← ec)

-- One range alone, and none.
module _ (img : List ℕ) (b : ℕ) {n : ℕ} (e : n ≡ ranges img) where
  pub one_alone : n ≡ 1 → {c : ℕ} → c ≡ class_in img b 1 0 → c ≡ class_of img b
  one_alone z h = h ∙ ap (λ (k : ℕ). class_in img b k 0) (sym z ∙ e)

  pub no_range : n ≡ 0 → 0 ≡ class_of img b
  unfolding class_in
  no_range z = ap (λ (k : ℕ). class_in img b k 0) (sym z ∙ e)
