-- Writes into lent bytes: none, and two one after the other, are one.
use mathlib.Core.Path.{◌≡◌, refl, ap, ◌∙◌}
use mathlib.Core.List.{List, [], ◌∷◌, ◌++◌}
use Prim.Native.Nat.{ℕ, suc, ◌+◌}
use native.Mathlib.Nat.{add-zero}
use native.Mathlib.Omega.{arith}
use lib.ListN.{length, set, length-append}
use lib.Seq.{sets, length-sets}
use Rattle.putfields.specs.Steps.{Wrote}

sets-append : (a b out : List ℕ) (at : ℕ) → sets out at (a ++ b) ≡ sets (sets out at a) (at + length a) b
sets-append [] b out at = rw (add-zero at)
sets-append (x ∷ a) b out at = let z : suc at + length a ≡ at + suc (length a) = omega arith in sets-append a b (set out at x) (suc at) ∙ rw z

pub wrote_none : (out : List ℕ) (at : ℕ) → Wrote [] out at out at
wrote_none out at = record { end = omega arith; holds = refl }

pub wrote_two : {out out₁ out₂ : List ℕ} {at r₁ r₂ : ℕ} (a b : List ℕ) → Wrote a out at out₁ r₁ → Wrote b out₁ r₁ out₂ r₂ → Wrote (a ++ b) out at out₂ r₂
wrote_two {out = out} {at = at} a b p q = record {
  end = omega (arith, p.end, q.end, length-append a b);
  holds = q.holds ∙ rw (p.holds, p.end, ← sets-append a b out at);
}

pub wrote_length : {bytes out out' : List ℕ} {at r : ℕ} → Wrote bytes out at out' r → length out' ≡ length out
wrote_length {bytes = bytes} {out = out} {at = at} p = ap length p.holds ∙ length-sets out at bytes
