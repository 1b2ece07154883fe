-- How many ranges begin at a byte or below it: what that says of the byte's class, how an entry tells it, and how the count grows. Assumes nothing.
use mathlib.Core.Path.{◌≡◌, refl, sym, ap, ◌∙◌}
use mathlib.Core.Bool.{Bool, true, false}
use mathlib.Core.List.{List}
use Prim.Native.Nat.{ℕ, zero, suc, ◌+◌, ◌*◌, ◌-◌, ◌/◌, ◌%◌, ◌^◌, ◌<◌, ◌≤◌}
use native.Mathlib.Nat.{add-zero, zero-add, mul-zero, mul-one, add-mul-div_right, add-mul-mod_self_right, mul_assoc, mod-lt, mod-eq_of_lt, pow-suc, pow-le-pow_right}
use native.Mathlib.Numerals.{add-one}
use native.Mathlib.Omega.{arith}
use lib.ListN.{length, get_or, set}
use lib.Seq.{get_or-set_same, get_or-set_other}
use lib.Arith.{digits_lt, digits_div}
use lib.Pow.{pow-add}
use lib.Dec.{leb}
use borrow.Author.Count.{below_more}
use borrow.Author.Tests.{leb-true, leb-false}
use Rattle.numbers.specs.Verdicts.{Good}
use Rattle.pack.specs.Image.{classes, ranges, lo, hi, range_class, class_in, class_of}
use Rattle.pack.specs.Laid.{Laid}
use Rattle.shape.specs.Shape.{shape}
use Rattle.shape.proofs.Good.{good_range, good_above, good_class}
use Rattle.classes.proofs.Ranges.{ends_below, begins_above, before_ends, behind_begins, one_below, one_holds}
use Rattle.index.specs.Index.{Begun, Tells, Indexed, base}

-- Where the next range begins above a byte, or there is none, all behind do.
module _ (img : List ℕ) (good : shape img ≡ Good) (b r : ℕ) (below : (k : ℕ) → k < r → lo img k ≤ b) where
  pub found_next : r < ranges img → b < lo img r → Begun img b r
  found_next l h =
      record {
        within = omega arith;
        below = below;
        above = λ k m n. let z : r + (k - r) ≡ k = omega arith in omega (arith, h, rw z at (behind_begins img good r (k - r) (omega arith)));
      }

  pub found_all : ranges img ≤ r → r ≤ ranges img → Begun img b r
  found_all l h = record { within = h; below = below; above = λ k m n. absurd (omega arith) }

  pub one_more : lo img r ≤ b → (k : ℕ) → k < r + 1 → lo img k ≤ b
  one_more h = below_more (λ k. lo img k ≤ b) r below h

-- The class of the byte: that of the last range that begins at it or below it, where it ends at it or above.
module _ (img : List ℕ) (good : shape img ≡ Good) (b : ℕ) where
  pub none_begun : Begun img b 0 → 0 ≡ class_of img b
  unfolding class_in
  none_begun g = rw (zero-add (ranges img)) at (sym (begins_above img b 0 0 (ranges img) (λ k l. g.above (0 + 0 + k) (omega arith) (omega arith))))

  pub last_begun : (s : ℕ) → Begun img b (s + 1) → class_of img b ≡ class_in img b 1 s
  last_begun s g =
      let z : ranges img ≡ s + (1 + (ranges img - (s + 1))) = omega (arith, g.within) in
      let l : lo img s ≤ b = g.below s (omega arith) in
      ap (λ (k : ℕ). class_in img b k 0) z
      ∙ ends_below img b s 0 (1 + (ranges img - (s + 1))) (λ k h. rw (zero-add k) (omega (arith, l, before_ends img good s (omega (arith, g.within)) k h)))
      ∙ ap (λ (k : ℕ). class_in img b (1 + (ranges img - (s + 1))) k) (zero-add s)
      ∙ begins_above img b 1 s (ranges img - (s + 1)) (λ k h. g.above (s + 1 + k) (omega arith) (omega (arith, g.within)))

  pub last_class : (r : ℕ) {c : ℕ} → Begun img b r → (r ≡ 0 → ⊥) → c ≡ class_in img b 1 (r - 1) → (c ≡ class_of img b) × (c < classes img)
  last_class r {c} g n e =
      let z : r - 1 + 1 ≡ r = omega arith in
      let here : c ≡ class_of img b = e ∙ sym (last_begun (r - 1) (rw z g)) in
      (here, omega (arith, here, good_class img good b))

-- A range that begins at a byte or below it holds the byte where it does not end before: its class, or 0.
module _ (img : List ℕ) (b r : ℕ) (l : lo img r ≤ b) {class end w : ℕ} (ec : class ≡ range_class img r) (ee : end ≡ hi img r) (behind : end < b → w ≡ 0)
    (held : b ≤ end → w ≡ 1) where
  pub class_held : (class * w ≤ class) × (class * w ≡ class_in img b 1 r)
  class_held = go (leb b end) refl
    where
      go : (x : Bool) → leb b end ≡ x → (class * w ≤ class) × (class * w ≡ class_in img b 1 r)
      go true e = let h = leb-true b end e in rw (held h, mul-one class) (omega arith, one_holds img b r refl l ee h ec)
      go false e = let h = leb-false b end e in rw (behind h, mul-zero class) (omega arith, one_below img b r refl l ee h)

-- Of the ranges that begin above a byte each next one begins a byte further at least, so no more than j begin in the j bytes behind it.
module _ (img : List ℕ) (good : shape img ≡ Good) (b r : ℕ) (g : Begun img b r) where
  rises : (k : ℕ) → r + k < ranges img → b + k < lo img (r + k)
  rises zero l = let z = add-zero r in let y = add-zero b in rw (z, y) (g.above r (omega arith) (omega arith))
  rises (suc k) l =
      let z : r + suc k ≡ r + k + 1 = omega arith in
      rw z (omega (arith, rises k (omega arith), good_range img good (r + k) (omega arith), good_above img good (r + k) (omega arith)))

  pub few_more : (j s : ℕ) → Begun img (b + j) s → s ≤ r + j
  few_more j s h = go (s - (r + j)) refl
    where
      go : (d : ℕ) → s - (r + j) ≡ d → s ≤ r + j
      go zero e = omega arith
      go (suc d) e = absurd (omega (arith, rises j (omega (arith, h.within)), h.below (r + j) (omega arith)))

-- A field is not changed by what is added above it.
eight_positive : (i : ℕ) → 0 < 8 ^ i
eight_positive i = pow-le-pow_right (omega arith) {i = 0} {j = i} (omega arith)

pub field_below : (x y i j : ℕ) → i < j → (x + y * 8 ^ j) / 8 ^ i % 8 ≡ x / 8 ^ i % 8
field_below x y i j l =
    let d = j - i - 1 in
    let z : j ≡ d + 1 + i = omega arith in
    let p : 8 ^ j ≡ 8 ^ d * 8 * 8 ^ i = ap (λ (k : ℕ). 8 ^ k) z ∙ pow-add 8 (d + 1) i ∙ ap (λ (k : ℕ). k * 8 ^ i) (pow-add 8 d 1) in
    let m : y * 8 ^ j ≡ y * 8 ^ d * 8 * 8 ^ i = ap (λ (k : ℕ). y * k) p ∙ sym (mul_assoc y (8 ^ d * 8) (8 ^ i)) ∙ ap (λ (k : ℕ). k * 8 ^ i) (sym (mul_assoc y (8 ^ d) 8)) in
    rw (m, add-mul-div_right x (y * 8 ^ d * 8) (eight_positive i)) (add-mul-mod_self_right (x / 8 ^ i) (y * 8 ^ d) 8)

pub eight_most : (j : ℕ) → j ≤ 8 → 8 ^ j ≤ 16777216
eight_most j l = pow-le-pow_right (omega arith) {i = j} {j = 8} l

-- A shift by three bits for each field.
pub eight_bits : (j : ℕ) → 2 ^ (3 * j) ≡ 8 ^ j
eight_bits zero = refl
eight_bits (suc j) =
    let z : 3 * suc j ≡ 3 * j + 3 = omega arith in
    rw (z, pow-add 2 (3 * j) 3, eight_bits j, pow-suc 8 j) refl

-- What a field counts by, and by what the next one does.
pub eight_more : (j : ℕ) {field : ℕ} → field ≡ 8 ^ j → field * 8 ≡ 8 ^ (j + 1)
eight_more j {field} e = rw (add-one j, pow-suc 8 j) (omega arith)

-- The fields of an entry, one more each time.
module _ (img : List ℕ) (good : shape img ≡ Good) (first base : ℕ) (g : Begun img first base) (j fields : ℕ) (lj : j < 8) (lf : fields < 8 ^ j) {all : ℕ}
    (h : Begun img (first + j) all) (more : base ≤ all) where
  pub next_small : all - base < 8
  next_small = omega (arith, few_more img good first base g j all h)

  next_field : base + (fields + (all - base) * 8 ^ j) / 8 ^ j % 8 ≡ all
  next_field =
      let z : fields + (all - base) * 8 ^ j ≡ (all - base) * 8 ^ j + fields = omega arith in
      rw (z, digits_div (all - base) lf, mod-eq_of_lt next_small) (omega arith)

  module _ {field : ℕ} (ef : field ≡ 8 ^ j) where
    pub next_fits : fields + (all - base) * field < 8 * field
    next_fits = rw ef (omega (arith, digits_lt {q = all - base} next_small lf))

    pub next_below : fields + (all - base) * field < 8 ^ (j + 1)
    next_below = omega (arith, next_fits, eight_more j ef)

    pub next_each : ((i : ℕ) → i < j → Begun img (first + i) (base + fields / 8 ^ i % 8))
        → (i : ℕ) → i < j + 1 → Begun img (first + i) (base + (fields + (all - base) * field) / 8 ^ i % 8)
    next_each e =
        below_more (λ i. Begun img (first + i) (base + (fields + (all - base) * field) / 8 ^ i % 8)) j
        (λ i l. rw (ef, field_below fields (all - base) i j l) (e i l)) (rw (ef, next_field) h)

-- The whole entry.
pub entry_tells : (img : List ℕ) (first base fields : ℕ) → Begun img first base → fields < 16777216
    → ((i : ℕ) → i < 8 → Begun img (first + i) (base + fields / 8 ^ i % 8)) → Tells img first (base * 16777216 + fields)
entry_tells img first base fields g l e =
    let top : (base * 16777216 + fields) / 16777216 ≡ base = digits_div base l in
    let z : base * 16777216 + fields ≡ fields + base * 8 ^ 8 = omega arith in
    record { here = rw top g; each = λ i h. rw (top, z, field_below fields base i 8 h) (e i h) }

-- The same where the fields were gathered one after the other, and that it fits its word.
pub entry_made : (img : List ℕ) → Laid img → (first base fields j : ℕ) → Begun img first base → 8 ≤ j → j ≤ 8 → fields < 8 ^ j
    → ((i : ℕ) → i < j → Begun img (first + i) (base + fields / 8 ^ i % 8))
    → Tells img first (base * 16777216 + fields) × (base * 16777216 + fields < 4294967296)
entry_made img laid first base fields j g from to small e =
    let eight : j ≡ 8 = omega arith in
    let l : fields < 16777216 = rw eight at small in
    (entry_tells img first base fields g l (λ i h. e i (omega arith)), omega (arith, g.within, laid.sized.r_most))

-- What an index tells of a byte.
pub index_tells : (img index : List ℕ) (b : ℕ) {e : ℕ} → b < 256 → e ≡ get_or index (b / 8) 0 → Indexed img index
    → Begun img b (e / 16777216 + e / 2 ^ (3 * (b % 8)) % 8)
index_tells img index b l ee x =
    let z : b / 8 * 8 + b % 8 ≡ b = omega arith in
    rw (ee, eight_bits (b % 8)) (rw z at ((x.each (b / 8) (omega arith)).each (b % 8) (mod-lt b (omega arith))))

-- One entry more of an index.
pub one_entry : (img index : List ℕ) (i : ℕ) {e : ℕ} → i < length index → ((m : ℕ) → m < i → Tells img (m * 8) (get_or index m 0)) → Tells img (i * 8) e
    → (m : ℕ) → m < i + 1 → Tells img (m * 8) (get_or (set index i e) m 0)
one_entry img index i {e} l before now =
    below_more (λ m. Tells img (m * 8) (get_or (set index i e) m 0)) i (λ m h. rw (get_or-set_other index i m e 0 (λ z. omega arith)) (before m h))
    (rw (get_or-set_same index i e 0 l) now)
