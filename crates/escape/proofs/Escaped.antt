-- What is printed for a byte. Assumes nothing.
use mathlib.Core.Path.{◌≡◌, refl, sym, ◌∙◌}
use mathlib.Core.Bool.{Bool, true, false}
use mathlib.Core.List.{List, [], ◌∷◌, ◌++◌}
use Prim.Native.Nat.{ℕ, zero, suc, ◌+◌, ◌<◌, ◌≤◌}
use native.Mathlib.Numerals.{add-one}
use native.Mathlib.Omega.{arith}
use lib.ListN.{length, get_or, drop, length-append}
use lib.Seq.{drop-cons, drop-length}
use Rattle.print.specs.Print.{special, escaped_byte, escaped}

module _ (b : ℕ) where
  pub escaped-special : {x : Bool} → x ≡ special b → x ≡ true → escaped_byte b ≡ 92 ∷ b ∷ []
  unfolding escaped_byte
  escaped-special e f = simp (escaped_byte, sym e ∙ f)

  pub escaped_plain : {x : Bool} → x ≡ special b → x ≡ false → escaped_byte b ≡ b ∷ []
  unfolding escaped_byte
  escaped_plain e f = simp (escaped_byte, sym e ∙ f)

-- Byte by byte.
pub escaped_at : (bytes : List ℕ) (i : ℕ) → i < length bytes → escaped (drop i bytes) ≡ escaped_byte (get_or bytes i 0) ++ escaped (drop (i + 1) bytes)
unfolding escaped
escaped_at bytes i h = rw (drop-cons bytes i 0 h, add-one i)

pub escaped_end : (bytes : List ℕ) (i : ℕ) → i ≡ length bytes → escaped (drop i bytes) ≡ []
unfolding escaped
escaped_end bytes i e = rw (e, drop-length bytes)

pub escaped_longer : (b : ℕ) → length (escaped_byte b) ≤ 2
unfolding escaped_byte
escaped_longer b = go (special b) refl
  where
    go : (x : Bool) → special b ≡ x → length (escaped_byte b) ≤ 2
    go true e = simp (escaped_byte, e) (omega arith)
    go false e = simp (escaped_byte, e) (omega arith)

pub escaped_some : (b : ℕ) → 1 ≤ length (escaped_byte b)
unfolding escaped_byte
escaped_some b = go (special b) refl
  where
    go : (x : Bool) → special b ≡ x → 1 ≤ length (escaped_byte b)
    go true e = simp (escaped_byte, e) (omega arith)
    go false e = simp (escaped_byte, e) (omega arith)

pub escaped_part : (bytes : List ℕ) (i : ℕ) → length (escaped (drop i bytes)) ≤ length (escaped bytes)
unfolding escaped
escaped_part bytes zero = omega arith
escaped_part [] (suc i) = omega arith
escaped_part (b ∷ bytes) (suc i) = omega (arith, escaped_part bytes i, length-append (escaped_byte b) (escaped bytes))
