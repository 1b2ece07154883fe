-- How many bytes are printed for those of a leaf. Assumes nothing.
use mathlib.Core.Path.{◌≡◌, ap, ◌∙◌}
use mathlib.Core.List.{List}
use Prim.Native.Nat.{ℕ, ◌+◌, ◌<◌, ◌≤◌}
use native.Mathlib.Omega.{arith}
use lib.ListN.{length, get_or, drop, length-append}
use Rattle.print.specs.Print.{escaped_byte, escaped}
use Rattle.escape.proofs.Escaped.{escaped_at, escaped_end, escaped_longer}

module _ (bytes : List ℕ) where
  -- So many bytes are printed for the first i.
  pub record Sized (i size : ℕ) : Type 0 where
    pub most : size ≤ i + i
    pub all : size + length (escaped (drop i bytes)) ≡ length (escaped bytes)

  pub sized_start : Sized 0 0
  sized_start = record { most = omega arith; all = omega arith }

  pub sized_on : (i size : ℕ) {w : ℕ} → i < length bytes → w ≡ length (escaped_byte (get_or bytes i 0)) → Sized i size → Sized (i + 1) (size + w)
  sized_on i size h e s =
      let z = ap length (escaped_at bytes i h) ∙ length-append (escaped_byte (get_or bytes i 0)) (escaped (drop (i + 1) bytes)) in
      record { most = omega (arith, s.most, e, escaped_longer (get_or bytes i 0)); all = omega (arith, s.all, e, z) }

  pub sized_end : (i size : ℕ) → i ≡ length bytes → Sized i size → size ≡ length (escaped bytes)
  sized_end i size h s = let z = ap length (escaped_end bytes i h) in omega (arith, s.all, z)
