-- Sets in hex: what is written is read back, and what is read is what would be written. Assumes nothing.
use mathlib.Core.Path.{◌≡◌, refl, ap, ◌∙◌}
use mathlib.Core.Bool.{Bool, true, false, ◌&&◌}
use mathlib.Core.List.{List, [], ◌∷◌}
use Prim.Native.Nat.{ℕ, zero, suc, ◌+◌, ◌*◌, ◌-◌, ◌/◌, ◌%◌, ◌<◌, ◌≤◌}
use native.Mathlib.Nat.{zero-add}
use native.Mathlib.Omega.{arith}
use lib.Dec.{leb, ltb}
use borrow.Author.Tests.{le-leb, lt-leb, lt-ltb, le-ltb, leb-true, leb-false, ltb-true, ltb-false}
use Rattle.text.specs.declared.Kind.TheVariants.{Set}
use Rattle.text.specs.Decimal.{is_digit}
use Rattle.text.specs.Fields.{hex_digit, hex_from, read_set, words_of, hex_of, hex_word}
use Rattle.text.proofs.Decimal.{field}

-- ---- the value of a byte
pub hex_low : (b : ℕ) → b < 48 → 0 ≡ hex_digit b
unfolding hex_digit is_digit
hex_low b h = let z : b < 97 = omega arith in simp (hex_digit, is_digit, ◌&&◌, lt-leb 48 b h, lt-leb 97 b z)

pub hex_ten : (b : ℕ) → 48 ≤ b → b ≤ 57 → b - 47 ≡ hex_digit b
unfolding hex_digit is_digit
hex_ten b h l = simp (hex_digit, is_digit, ◌&&◌, le-leb 48 b h, le-leb b 57 l)

pub hex_middle : (b : ℕ) → 57 < b → b < 97 → 0 ≡ hex_digit b
unfolding hex_digit is_digit
hex_middle b h l = let z : 48 ≤ b = omega arith in simp (hex_digit, is_digit, ◌&&◌, le-leb 48 b z, lt-leb b 57 h, lt-leb 97 b l)

pub hex_letter : (b : ℕ) → 97 ≤ b → b ≤ 102 → b - 86 ≡ hex_digit b
unfolding hex_digit is_digit
hex_letter b h l =
    let z : 48 ≤ b = omega arith in
    let y : 57 < b = omega arith in
    simp (hex_digit, is_digit, ◌&&◌, le-leb 48 b z, lt-leb b 57 y, le-leb 97 b h, le-leb b 102 l)

pub hex_high : (b : ℕ) → 102 < b → 0 ≡ hex_digit b
unfolding hex_digit is_digit
hex_high b h =
    let z : 48 ≤ b = omega arith in
    let y : 57 < b = omega arith in
    let x : 97 ≤ b = omega arith in
    simp (hex_digit, is_digit, ◌&&◌, le-leb 48 b z, lt-leb b 57 y, le-leb 97 b x, lt-leb b 102 h)

-- It is 16 at the most.
pub hex_most : (b : ℕ) → hex_digit b ≤ 16
hex_most b = go (leb 48 b) refl (leb b 57) refl (leb 97 b) refl (leb b 102) refl
  where
    go : (p : Bool) → leb 48 b ≡ p → (q : Bool) → leb b 57 ≡ q → (r : Bool) → leb 97 b ≡ r → (s : Bool) → leb b 102 ≡ s → hex_digit b ≤ 16
    go false p q e r f s g = rw (← hex_low b (leb-false _ _ p)) (omega arith)
    go true p true e r f s g = rw (← hex_ten b (leb-true _ _ p) (leb-true _ _ e)) (omega (arith, leb-true b 57 e))
    go true p false e false f s g = rw (← hex_middle b (leb-false _ _ e) (leb-false _ _ f)) (omega arith)
    go true p false e true f true g = rw (← hex_letter b (leb-true _ _ f) (leb-true _ _ g)) (omega (arith, leb-true b 102 g))
    go true p false e true f false g = rw (← hex_high b (leb-false _ _ g)) (omega arith)

-- ---- what is written is read back
hex_back : (d : ℕ) → d < 16 → hex_digit (hex_of d) ≡ suc d
unfolding hex_digit hex_of is_digit
hex_back d h = go (ltb d 10) refl
  where
    go : (b : Bool) → ltb d 10 ≡ b → hex_digit (hex_of d) ≡ suc d
    go true p =
        let z = ltb-true d 10 p in
        let y : 48 + d - 47 ≡ suc d = omega arith in
        simp (hex_of, p, hex_digit, is_digit, ◌&&◌, le-leb 48 (48 + d) (omega arith), le-leb (48 + d) 57 (omega arith), y)
    go false p =
        let z = ltb-false d 10 p in
        let y : 87 + d - 86 ≡ suc d = omega arith in
        simp (hex_of, p, hex_digit, is_digit, ◌&&◌, le-leb 48 (87 + d) (omega arith), lt-leb (87 + d) 57 (omega arith), le-leb 97 (87 + d) (omega arith), le-leb (87 + d) 102 (omega arith), y)

hex_one : (n d : ℕ) (bs : List ℕ) (v k : ℕ) → d < 16 → hex_from (suc n) (hex_of d ∷ bs) v k ≡ hex_from n bs (v * 16 + d) (k + 1)
unfolding hex_from
hex_one n d bs v k h = simp (hex_from, hex_back d h)

-- A word is four digits.
hex_four : (n w : ℕ) (bs : List ℕ) (v k : ℕ) → w < 65536 → hex_from (suc (suc (suc (suc n)))) (hex_word w bs) v k ≡ hex_from n bs (v * 65536 + w) (k + 4)
unfolding hex_word
hex_four n w bs v k h =
    let z : (((v * 16 + w / 16 / 16 / 16) * 16 + w / 16 / 16 % 16) * 16 + w / 16 % 16) * 16 + w % 16 ≡ v * 65536 + w = omega arith in
    let y : k + 1 + 1 + 1 + 1 ≡ k + 4 = omega arith in
    hex_one _ _ _ _ _ (omega arith) ∙ hex_one _ _ _ _ _ (omega arith) ∙ hex_one _ _ _ _ _ (omega arith) ∙ hex_one _ _ _ _ _ (omega arith) ∙ rw (z, y)

-- The value of four words, lowest first.
abbrev pub value_of : ℕ → ℕ → ℕ → ℕ → ℕ
value_of a b c d = ((d * 65536 + c) * 65536 + b) * 65536 + a

pub set_back : (a b c d : ℕ) (rest : List ℕ) → a < 65536 → b < 65536 → c < 65536 → d < 65536
    → read_set (hex_word d (hex_word c (hex_word b (hex_word a rest)))) ≡ field (value_of a b c d) 16
unfolding read_set hex_from
set_back a b c d rest ha hb hc hd =
    hex_four 12 d _ 0 0 hd ∙ hex_four 8 c _ _ _ hc ∙ hex_four 4 b _ _ _ hb ∙ hex_four 0 a _ _ _ ha ∙ rw (zero-add d)

low : (y w : ℕ) → w < 65536 → (y * 65536 + w) % 65536 ≡ w
low y w h = omega arith

high : (y w : ℕ) → w < 65536 → (y * 65536 + w) / 65536 ≡ y
high y w h = omega arith

pub value_words : (a b c d : ℕ) → a < 65536 → b < 65536 → c < 65536 → d < 65536 → words_of Set (value_of a b c d) ≡ a ∷ b ∷ c ∷ d ∷ []
unfolding words_of
value_words a b c d ha hb hc hd =
    rw (low ((d * 65536 + c) * 65536 + b) a ha, high ((d * 65536 + c) * 65536 + b) a ha, low (d * 65536 + c) b hb, high (d * 65536 + c) b hb, low d c hc, high d c hc)

-- ---- what is read is what would be written: a digit of value d is the byte that is written for d
hex_is : (b d : ℕ) → hex_digit b ≡ suc d → (d < 16) × (b ≡ hex_of d)
unfolding hex_of
hex_is b d e = go (leb 48 b) refl (leb b 57) refl (leb 97 b) refl (leb b 102) refl
  where
    go : (p : Bool) → leb 48 b ≡ p → (q : Bool) → leb b 57 ≡ q → (r : Bool) → leb 97 b ≡ r → (s : Bool) → leb b 102 ≡ s → (d < 16) × (b ≡ hex_of d)
    go false p q f r g s h = absurd (omega (arith, e, hex_low b (leb-false _ _ p)))
    go true p true f r g s h =
        let a = leb-true 48 b p in
        let c = leb-true b 57 f in
        let z : b - 47 ≡ suc d = hex_ten b a c ∙ e in
        (omega arith, simp (hex_of, lt-ltb d 10 (omega arith)) (omega arith))
    go true p false f false g s h = absurd (omega (arith, e, hex_middle b (leb-false _ _ f) (leb-false _ _ g)))
    go true p false f true g true h =
        let a = leb-true 97 b g in
        let c = leb-true b 102 h in
        let z : b - 86 ≡ suc d = hex_letter b a c ∙ e in
        (omega arith, simp (hex_of, le-ltb d 10 (omega arith)) (omega arith))
    go true p false f true g false h = absurd (omega (arith, e, hex_high b (leb-false _ _ h)))

-- One digit, and then four: what stood there, and what is left.
record Digit (n : ℕ) (bytes : List ℕ) (v k : ℕ) : Type 0 where
  d : ℕ
  rest : List ℕ
  small : d < 16
  is : bytes ≡ hex_of d ∷ rest
  on : hex_from (suc n) bytes v k ≡ hex_from n rest (v * 16 + d) (k + 1)

digit : (n : ℕ) (bytes : List ℕ) (v k : ℕ) → ((hex_from (suc n) bytes v k).used ≡ 0 → ⊥) → Digit n bytes v k
unfolding hex_from
digit n [] v k z = absurd (z refl)
digit n (b ∷ bs) v k z = go (hex_digit b) refl
  where
    go : (x : ℕ) → hex_digit b ≡ x → Digit n (b ∷ bs) v k
    go zero e = absurd (z (simp (hex_from, e)))
    go (suc x) e = let h = hex_is b x e in record { d = x; rest = bs; small = h.0; is = ap (λ (c : ℕ). c ∷ bs) h.1; on = simp (hex_from, e) }

record Word (n : ℕ) (bytes : List ℕ) (v k : ℕ) : Type 0 where
  w : ℕ
  rest : List ℕ
  small : w < 65536
  is : bytes ≡ hex_word w rest
  on : hex_from (suc (suc (suc (suc n)))) bytes v k ≡ hex_from n rest (v * 65536 + w) (k + 4)

four : (n : ℕ) (bytes : List ℕ) (v k : ℕ) → ((hex_from (suc (suc (suc (suc n)))) bytes v k).used ≡ 0 → ⊥) → Word n bytes v k
unfolding hex_word
four n bytes v k z =
    let p = digit (suc (suc (suc n))) bytes v k z in
    let q = digit (suc (suc n)) p.rest _ _ (rw p.on at z) in
    let r = digit (suc n) q.rest _ _ (rw q.on at (rw p.on at z)) in
    let s = digit n r.rest _ _ (rw r.on at (rw q.on at (rw p.on at z))) in
    let w = ((p.d * 16 + q.d) * 16 + r.d) * 16 + s.d in
    let a : w / 16 / 16 / 16 ≡ p.d = omega (arith, p.small, q.small, r.small, s.small) in
    let b : w / 16 / 16 % 16 ≡ q.d = omega (arith, p.small, q.small, r.small, s.small) in
    let c : w / 16 % 16 ≡ r.d = omega (arith, p.small, q.small, r.small, s.small) in
    let d : w % 16 ≡ s.d = omega (arith, p.small, q.small, r.small, s.small) in
    let x : (((v * 16 + p.d) * 16 + q.d) * 16 + r.d) * 16 + s.d ≡ v * 65536 + w = omega arith in
    let y : k + 1 + 1 + 1 + 1 ≡ k + 4 = omega arith in record {
      w = w;
      rest = s.rest;
      small = omega (arith, p.small, q.small, r.small, s.small);
      is = rw (a, b, c, d) (p.is ∙ ap (λ (l : List ℕ). hex_of p.d ∷ l) (q.is ∙ ap (λ (l : List ℕ). hex_of q.d ∷ l) (r.is ∙ ap (λ (l : List ℕ). hex_of r.d ∷ l) s.is)));
      on = p.on ∙ q.on ∙ r.on ∙ s.on ∙ rw (x, y);
    }

-- ---- a set
pub record SetText (bytes : List ℕ) : Type 0 where
  pub a : ℕ
  pub b : ℕ
  pub c : ℕ
  pub d : ℕ
  pub rest : List ℕ
  pub a_small : a < 65536
  pub b_small : b < 65536
  pub c_small : c < 65536
  pub d_small : d < 65536
  pub is : bytes ≡ hex_word d (hex_word c (hex_word b (hex_word a rest)))
  pub value : read_set bytes ≡ field (value_of a b c d) 16

pub set_text : (bytes : List ℕ) → ((read_set bytes).used ≡ 0 → ⊥) → SetText bytes
unfolding read_set hex_from
set_text bytes z =
    let p = four 12 bytes 0 0 z in
    let q = four 8 p.rest _ _ (rw p.on at z) in
    let r = four 4 q.rest _ _ (rw q.on at (rw p.on at z)) in
    let s = four 0 r.rest _ _ (rw r.on at (rw q.on at (rw p.on at z))) in record {
      a = s.w;
      b = r.w;
      c = q.w;
      d = p.w;
      rest = s.rest;
      a_small = s.small;
      b_small = r.small;
      c_small = q.small;
      d_small = p.small;
      is = p.is ∙ ap (hex_word p.w) (q.is ∙ ap (hex_word q.w) (r.is ∙ ap (hex_word r.w) s.is));
      value = p.on ∙ q.on ∙ r.on ∙ s.on ∙ ap (λ (x : ℕ). field (((x * 65536 + q.w) * 65536 + r.w) * 65536 + s.w) 16) (zero-add p.w);
    }
