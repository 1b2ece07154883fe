-- The turns of the loop that reads a number, and what its tests say of the definitions, over plain variables.
use mathlib.Core.Path.{◌≡◌, refl, ap}
use mathlib.Core.Bool.{Bool, true, false, ◌&&◌}
use mathlib.Core.List.{List, ◌∷◌}
use Prim.Native.Nat.{ℕ, zero, suc, ◌+◌, ◌*◌, ◌-◌, ◌<◌, ◌≤◌}
use native.Mathlib.Numerals.{add-one}
use native.Mathlib.Omega.{arith}
use lib.Dec.{eqb, leb}
use lib.ListN.{length, get_or, take, drop, drop_of_length-le, length-drop}
use lib.Seq.{drop-cons, take_all}
use borrow.Author.Tests.{le-leb, lt-leb}
use Rattle.std.specs.Char.{is_ascii_digit}
use Rattle.std.specs.Prelude.{Option, Some, None}
use Rattle.text.specs.declared.Field.{Field}
use Rattle.text.specs.Decimal.{is_digit, digits_from, number_in, read_number}
use Rattle.text.proofs.Decimal.{field}
use Rattle.fields.specs.Steps.{taken}

digit_is : (b : ℕ) → is_digit b ≡ is_ascii_digit b
unfolding is_digit
digit_is b = refl

-- ---- decimal digits
module _ (limit : ℕ) (s : List ℕ) (v k : ℕ) where
  pub digits_end : length s ≤ k → digits_from limit (drop k s) v k ≡ record { value = v; used = k }
  unfolding digits_from
  digits_end h = rw (drop_of_length-le s h)

  module _ (h : k < length s) where
    pub digits_stop : is_ascii_digit (get_or s k 0) ≡ false → digits_from limit (drop k s) v k ≡ record { value = v; used = k }
    unfolding digits_from
    digits_stop p = rw (drop-cons s k 0 h) (simp (digits_from, digit_is, p))

    pub digits_much : limit < v → digits_from limit (drop k s) v k ≡ record { value = v; used = k }
    unfolding digits_from
    digits_much r = rw (drop-cons s k 0 h) (go (is_digit (get_or s k 0)) refl)
      where
        go : (x : Bool) → is_digit (get_or s k 0) ≡ x → digits_from limit (get_or s k 0 ∷ drop (suc k) s) v k ≡ record { value = v; used = k }
        go true e = simp (digits_from, e, lt-leb _ _ r)
        go false e = simp (digits_from, e)

    pub digits_on : is_ascii_digit (get_or s k 0) ≡ true → v ≤ limit
        → digits_from limit (drop k s) v k ≡ digits_from limit (drop (k + 1) s) (v * 10 + (get_or s k 0 - 48)) (k + 1)
    unfolding digits_from
    digits_on p r = rw (drop-cons s k 0 h, ← add-one k) (simp (digits_from, digit_is, p, le-leb _ _ r))

-- ---- a number
pub rest_is : (bytes : List ℕ) (k : ℕ) → take (length bytes - k) (drop k bytes) ≡ drop k bytes
rest_is bytes k = take_all (length bytes - k) (drop k bytes) (omega (arith, length-drop k bytes))

pub no_field : (f : Field) (bytes : List ℕ) → f.used ≡ 0 → taken f bytes ≡ None
unfolding taken
no_field f bytes e = simp (taken, e)

pub some_field : (f : Field) (bytes : List ℕ) → (f.used ≡ 0 → ⊥) → taken f bytes ≡ Some (f.value, drop f.used bytes)
unfolding taken
some_field f bytes z = go f.used refl
  where
    go : (k : ℕ) → f.used ≡ k → taken f bytes ≡ Some (f.value, drop f.used bytes)
    go zero e = absurd (z e)
    go (suc k) e = simp (taken, e)

pub taken_none : (f : Field) (bytes : List ℕ) → taken f bytes ≡ None → f.used ≡ 0
unfolding taken
taken_none f bytes e = go f.used refl
  where
    go : (k : ℕ) → f.used ≡ k → f.used ≡ 0
    go zero p = p
    go (suc k) p = let z : ◌≡◌ {A = Option (ℕ × List ℕ)} (Some (f.value, drop (suc k) bytes)) None = simp (taken, p) at e in cc

pub taken_some : (f : Field) (bytes : List ℕ) (v : ℕ) (rest : List ℕ) → taken f bytes ≡ Some (v, rest)
    → (f.used ≡ 0 → ⊥) × (f.value ≡ v) × (drop f.used bytes ≡ rest)
unfolding taken
taken_some f bytes v rest e = go f.used refl
  where
    go : (k : ℕ) → f.used ≡ k → (f.used ≡ 0 → ⊥) × (f.value ≡ v) × (drop f.used bytes ≡ rest)
    go zero p = let z : ◌≡◌ {A = Option (ℕ × List ℕ)} None (Some (v, rest)) = simp (taken, p) at e in cc
    go (suc k) p =
        let z : ◌≡◌ {A = Option (ℕ × List ℕ)} (Some (f.value, drop (suc k) bytes)) (Some (v, rest)) = simp (taken, p) at e in
        let y : ◌≡◌ {A = ℕ × List ℕ} (f.value, drop (suc k) bytes) (v, rest) = cc in
        (λ x. absurd (omega (arith, x, p)), ap (λ (r : ℕ × List ℕ). r.0) y, rw p (ap (λ (r : ℕ × List ℕ). r.1) y))

module _ (limit : ℕ) (bytes : List ℕ) (v k : ℕ) (e : digits_from limit bytes 0 0 ≡ record { value = v; used = k }) where
  pub number_much : limit < v → taken (read_number limit bytes) bytes ≡ None
  unfolding read_number number_in
  number_much h = no_field _ bytes (simp (read_number, number_in, e, lt-leb _ _ h))

  pub number_zero : (eqb (get_or bytes 0 0) 48 && leb 2 k) ≡ true → taken (read_number limit bytes) bytes ≡ None
  unfolding read_number number_in
  number_zero z = go (leb v limit) refl
    where
      go : (x : Bool) → leb v limit ≡ x → taken (read_number limit bytes) bytes ≡ None
      go true p = no_field _ bytes (simp (read_number, number_in, e, p, z))
      go false p = no_field _ bytes (simp (read_number, number_in, e, p))

  pub number_is : v ≤ limit → (eqb (get_or bytes 0 0) 48 && leb 2 k) ≡ false → read_number limit bytes ≡ field v k
  unfolding read_number number_in
  number_is h z = simp (read_number, number_in, e, le-leb _ _ h, z)

  pub number_none : k ≡ 0 → taken (read_number limit bytes) bytes ≡ None
  unfolding read_number number_in
  number_none z = go (leb v limit) refl (eqb (get_or bytes 0 0) 48 && leb 2 k) refl
    where
      go : (x : Bool) → leb v limit ≡ x → (y : Bool) → (eqb (get_or bytes 0 0) 48 && leb 2 k) ≡ y → taken (read_number limit bytes) bytes ≡ None
      go true p true q = no_field _ bytes (simp (read_number, number_in, e, p, q))
      go true p false q = no_field _ bytes (simp (read_number, number_in, e, p, q) z)
      go false p y q = no_field _ bytes (simp (read_number, number_in, e, p))

  pub number_some : (k ≡ 0 → ⊥) → v ≤ limit → (eqb (get_or bytes 0 0) 48 && leb 2 k) ≡ false
      → taken (read_number limit bytes) bytes ≡ Some (v, take (length bytes - k) (drop k bytes))
  number_some n h z =
      let i = number_is h z in
      rw (rest_is bytes k, i) (some_field (field v k) bytes n)
