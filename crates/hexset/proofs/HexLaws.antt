-- The turns of the loop that reads a set, over plain variables, and its words behind the words so far.
use mathlib.Core.Path.{◌≡◌, refl, sym, ap, ◌∙◌}
use mathlib.Core.List.{List, [], ◌∷◌, ◌++◌}
use Prim.Native.Nat.{ℕ, zero, suc, ◌+◌, ◌*◌, ◌-◌, ◌^◌, ◌<◌, ◌≤◌}
use native.Mathlib.Nat.{pow-suc, pow-le-pow_right}
use native.Mathlib.Numerals.{add-one}
use native.Mathlib.Omega.{arith}
use lib.ListN.{length, get_or, take, drop, length-append, length-drop}
use lib.Seq.{drop-cons, take_at, sets, sets-eq, length-take-le}
use Rattle.text.specs.Decimal.{none, is_digit}
use Rattle.text.specs.Fields.{hex_digit, hex_from, read_set}
use Rattle.text.proofs.Decimal.{field}
use Rattle.text.proofs.Hex.{hex_ten, hex_letter, hex_most}
use Rattle.std.specs.Prelude.{Option, Some, None}
use Rattle.fields.specs.Steps.{taken}
use Rattle.fields.proofs.FieldLaws.{rest_is, no_field, some_field}
use Rattle.hexset.specs.Steps.{hex_four}

-- ---- one hex digit
pub digit_ten : (b : ℕ) → 48 ≤ b → b ≤ 57 → hex_digit b ≡ b - 47
digit_ten b h l = sym (hex_ten b h l)

pub digit_letter : (b : ℕ) → 97 ≤ b → b ≤ 102 → hex_digit b ≡ b - 86
digit_letter b h l = sym (hex_letter b h l)

-- ---- four hex digits
hex_one : (n b : ℕ) (bs : List ℕ) (v k d : ℕ) → hex_digit b ≡ suc d → hex_from (suc n) (b ∷ bs) v k ≡ hex_from n bs (v * 16 + d) (k + 1)
unfolding hex_from
hex_one n b bs v k d e = simp (hex_from, e)

hex_no : (n b : ℕ) (bs : List ℕ) (v k : ℕ) → hex_digit b ≡ 0 → hex_from (suc n) (b ∷ bs) v k ≡ none
unfolding hex_from
hex_no n b bs v k e = simp (hex_from, e)

-- What four bytes are: no four digits, or digits of this value.
pub data Four (a b c d : ℕ) (w : Option ℕ) : Type 0 where
  not_four : w ≡ None → ((n v k : ℕ) (bs : List ℕ) → hex_from (suc (suc (suc (suc n)))) (a ∷ b ∷ c ∷ d ∷ bs) v k ≡ none) → Four a b c d w
  are_four : (x : ℕ) → w ≡ Some x → x < 65536
      → ((n v k : ℕ) (bs : List ℕ) → hex_from (suc (suc (suc (suc n)))) (a ∷ b ∷ c ∷ d ∷ bs) v k ≡ hex_from n bs (v * 65536 + x) (k + 4)) → Four a b c d w

pub four : (a b c d : ℕ) → Four a b c d (hex_four a b c d)
unfolding hex_four
four a b c d = go (hex_digit a) refl (hex_digit b) refl (hex_digit c) refl (hex_digit d) refl
  where
    go : (i : ℕ) → hex_digit a ≡ i → (j : ℕ) → hex_digit b ≡ j → (k : ℕ) → hex_digit c ≡ k → (l : ℕ) → hex_digit d ≡ l → Four a b c d (hex_four a b c d)
    go zero e j f k g l h = not_four (simp (hex_four, e)) (λ n v m bs. hex_no _ a _ v m e)
    go (suc i) e zero f k g l h = not_four (simp (hex_four, e, f)) (λ n v m bs. hex_one _ a _ v m i e ∙ hex_no _ b _ _ _ f)
    go (suc i) e (suc j) f zero g l h = not_four (simp (hex_four, e, f, g)) (λ n v m bs. hex_one _ a _ v m i e ∙ hex_one _ b _ _ _ j f ∙ hex_no _ c _ _ _ g)
    go (suc i) e (suc j) f (suc k) g zero h =
        not_four (simp (hex_four, e, f, g, h)) (λ n v m bs. hex_one _ a _ v m i e ∙ hex_one _ b _ _ _ j f ∙ hex_one _ c _ _ _ k g ∙ hex_no _ d _ _ _ h)
    go (suc i) e (suc j) f (suc k) g (suc l) h =
        let x = ((i * 16 + j) * 16 + k) * 16 + l in
        are_four x (simp (hex_four, e, f, g, h)) (omega (arith, e, f, g, h, hex_most a, hex_most b, hex_most c, hex_most d))
        (λ n v m bs.
        let y : (((v * 16 + i) * 16 + j) * 16 + k) * 16 + l ≡ v * 65536 + x = omega arith in
        let z : m + 1 + 1 + 1 + 1 ≡ m + 4 = omega arith in
        hex_one _ a _ v m i e ∙ hex_one _ b _ _ _ j f ∙ hex_one _ c _ _ _ k g ∙ hex_one _ d _ _ _ l h ∙ rw (y, z))

-- What the tests of four bytes say.
module _ (a b c d : ℕ) where
  pub no_first : hex_digit a ≡ 0 → hex_four a b c d ≡ None
  unfolding hex_four
  no_first z = simp (hex_four, z)

  module _ (i : ℕ) (p : hex_digit a ≡ i + 1) where
    pub no_second : hex_digit b ≡ 0 → hex_four a b c d ≡ None
    unfolding hex_four
    no_second z = simp (hex_four, rw (add-one i) at p, z)

    module _ (j : ℕ) (q : hex_digit b ≡ j + 1) where
      pub no_third : hex_digit c ≡ 0 → hex_four a b c d ≡ None
      unfolding hex_four
      no_third z = simp (hex_four, rw (add-one i) at p, rw (add-one j) at q, z)

      module _ (k : ℕ) (r : hex_digit c ≡ k + 1) where
        pub no_fourth : hex_digit d ≡ 0 → hex_four a b c d ≡ None
        unfolding hex_four
        no_fourth z = simp (hex_four, rw (add-one i) at p, rw (add-one j) at q, rw (add-one k) at r, z)

        pub all_four : (l : ℕ) → hex_digit d ≡ l + 1 → hex_four a b c d ≡ Some (((i * 16 + j) * 16 + k) * 16 + l)
        unfolding hex_four
        all_four l t = simp (hex_four, rw (add-one i) at p, rw (add-one j) at q, rw (add-one k) at r, rw (add-one l) at t)

pub four_zeros : (a b c d : ℕ) → a ≡ 48 → b ≡ 48 → c ≡ 48 → d ≡ 48 → hex_four a b c d ≡ Some 0
unfolding hex_four hex_digit is_digit
four_zeros a b c d e f g h = rw (e, f, g, h)

-- Too few bytes.
pub hex_short : (n : ℕ) (bytes : List ℕ) (v k : ℕ) → length bytes < n → hex_from n bytes v k ≡ none
unfolding hex_from
hex_short zero bytes v k h = absurd (omega arith)
hex_short (suc n) [] v k h = refl
hex_short (suc n) (b ∷ bytes) v k h = go (hex_digit b) refl (λ w m. hex_short n bytes w m (omega arith))
  where
    go : (x : ℕ) → hex_digit b ≡ x → ((w m : ℕ) → hex_from n bytes w m ≡ none) → hex_from (suc n) (b ∷ bytes) v k ≡ none
    go zero e r = hex_no n b bytes v k e
    go (suc d) e r = hex_one n b bytes v k d e ∙ r _ _

four_at : (s : List ℕ) (i : ℕ) → i + 4 ≤ length s → drop i s ≡ get_or s i 0 ∷ get_or s (i + 1) 0 ∷ get_or s (i + 2) 0 ∷ get_or s (i + 3) 0 ∷ drop (i + 4) s
four_at s i h =
    let y₁ : suc i ≡ i + 1 = omega arith in
    let y₂ : suc (i + 1) ≡ i + 2 = omega arith in
    let y₃ : suc (i + 2) ≡ i + 3 = omega arith in
    let y₄ : suc (i + 3) ≡ i + 4 = omega arith in
    rw (drop-cons s i 0 (omega arith), y₁, drop-cons s (i + 1) 0 (omega arith), y₂, drop-cons s (i + 2) 0 (omega arith), y₃, drop-cons s (i + 3) 0 (omega arith), y₄)

-- One turn of a set: i words are read.
module _ (s : List ℕ) (i v : ℕ) (h : 16 ≤ length s) (l : i < 4) where
  -- The next four bytes.
  abbrev pub here : Option ℕ
  here = hex_four (get_or s (i * 4) 0) (get_or s (i * 4 + 1) 0) (get_or s (i * 4 + 2) 0) (get_or s (i * 4 + 3) 0)

  next_four : hex_from (16 - i * 4) (drop (i * 4) s) v (i * 4) ≡ hex_from (suc (suc (suc (suc (16 - (i + 1) * 4)))))
      (get_or s (i * 4) 0 ∷ get_or s (i * 4 + 1) 0 ∷ get_or s (i * 4 + 2) 0 ∷ get_or s (i * 4 + 3) 0 ∷ drop ((i + 1) * 4) s) v (i * 4)
  next_four =
      let y : 16 - i * 4 ≡ suc (suc (suc (suc (16 - (i + 1) * 4)))) = omega arith in
      let x : i * 4 + 4 ≡ (i + 1) * 4 = omega arith in
      rw (y, four_at s (i * 4) (omega arith), x)

  pub hex_bad : here ≡ None → hex_from (16 - i * 4) (drop (i * 4) s) v (i * 4) ≡ none
  hex_bad z = go (four (get_or s (i * 4) 0) (get_or s (i * 4 + 1) 0) (get_or s (i * 4 + 2) 0) (get_or s (i * 4 + 3) 0))
    where
      go : Four (get_or s (i * 4) 0) (get_or s (i * 4 + 1) 0) (get_or s (i * 4 + 2) 0) (get_or s (i * 4 + 3) 0) here
          → hex_from (16 - i * 4) (drop (i * 4) s) v (i * 4) ≡ none
      go (not_four q r) = next_four ∙ r _ v (i * 4) _
      go (are_four x q m r) = let y : None ≡ Some x = sym z ∙ q in cc

  pub hex_on : (w : ℕ) → here ≡ Some w
      → (w < 65536) × (hex_from (16 - i * 4) (drop (i * 4) s) v (i * 4) ≡ hex_from (16 - (i + 1) * 4) (drop ((i + 1) * 4) s) (v * 65536 + w) ((i + 1) * 4))
  hex_on w z = go (four (get_or s (i * 4) 0) (get_or s (i * 4 + 1) 0) (get_or s (i * 4 + 2) 0) (get_or s (i * 4 + 3) 0))
    where
      go : Four (get_or s (i * 4) 0) (get_or s (i * 4 + 1) 0) (get_or s (i * 4 + 2) 0) (get_or s (i * 4 + 3) 0) here
          → (w < 65536) × (hex_from (16 - i * 4) (drop (i * 4) s) v (i * 4) ≡ hex_from (16 - (i + 1) * 4) (drop ((i + 1) * 4) s) (v * 65536 + w) ((i + 1) * 4))
      go (not_four q r) = let y : None ≡ Some w = sym q ∙ z in cc
      go (are_four x q m r) =
          let y : Some x ≡ Some w = sym q ∙ z in
          let e : x ≡ w = cc in
          let f : i * 4 + 4 ≡ (i + 1) * 4 = omega arith in
          (rw (← e) m, rw (← e, next_four, ← f) (r _ v (i * 4) _))

pub hex_end : (bytes : List ℕ) (v i : ℕ) → 4 ≤ i → hex_from (16 - i * 4) bytes v (i * 4) ≡ field v (i * 4)
unfolding hex_from
hex_end bytes v i h = let z : 16 - i * 4 ≡ 0 = omega arith in rw z

-- The value of i words is below 65536 ^ i, so four of them fit.
pub words_room : (v w i : ℕ) → v < 65536 ^ i → w < 65536 → v * 65536 + w < 65536 ^ (i + 1)
words_room v w i h l = rw (add-one i, pow-suc 65536 i) (omega arith)

pub words_fit : (i : ℕ) → i < 4 → 65536 ^ (i + 1) ≤ 18446744073709551616
words_fit i h = pow-le-pow_right {n = 65536} (omega arith) {i = i + 1} {j = 4} (omega arith)

-- A set by itself.
pub set_wrong : (bytes : List ℕ) → hex_from 16 bytes 0 0 ≡ none → taken (read_set bytes) bytes ≡ None
unfolding read_set
set_wrong bytes e = rw e (no_field none bytes refl)

module _ (bytes : List ℕ) (v k : ℕ) (e : hex_from 16 bytes 0 0 ≡ field v k) (f : k ≡ 16) where
  pub set_is : taken (read_set bytes) bytes ≡ Some (v, take (length bytes - 16) (drop 16 bytes))
  unfolding read_set
  set_is = rw (e, f, rest_is bytes 16) (some_field (field v 16) bytes (λ z. absurd (omega (arith, z))))

  pub set_used : 16 ≤ length bytes → length (take (length bytes - 16) (drop 16 bytes)) + (read_set bytes).used ≡ length bytes
  unfolding read_set
  set_used h = rw (e, f, rest_is bytes 16, length-drop 16 bytes) (omega arith)

-- ---- words behind the words so far
pub stored : (img vs : List ℕ) (n : ℕ) → n + length vs ≤ length img → take (n + length vs) (sets img n vs) ≡ take n img ++ vs
stored img vs n h =
    let z : length (take n img ++ vs) ≡ n + length vs = length-append (take n img) vs ∙ ap (λ (k : ℕ). k + length vs) (length-take-le n img (omega arith)) in
    rw (sets-eq vs img n h) (take_at (take n img ++ vs) _ _ z)
