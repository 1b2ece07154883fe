use borrow.Author.Tests.{ltb-true, ltb-false}
use lib.Bits.{bit_or}
use lib.Dec.{ltb}
use lib.Pow.{pow_mono}
use mathlib.Core.Path.{◌≡◌, refl, ap}
use mathlib.Core.Bool.{Bool, true, false}
use mathlib.Core.List.{List}
use native.Mathlib.Nat.{add-zero}
use native.Mathlib.Omega.{arith}
use Prim.Native.Nat.{ℕ, zero, suc, ◌+◌, ◌-◌, ◌*◌, ◌^◌, ◌<◌, ◌≤◌, min}
use Rattle.sets.proofs.Laws.{or_left, or_right}
use Rattle.pack.specs.Image.{word, set_words, most_symbols, set_at, prod_at, symbol_at, symbol}
use Rattle.productions.proofs.joined.Goals as goal

-- A word of a set is 0 where the set has no bit from the first of its own on.
none_from : (img : List ℕ) (at k : ℕ) → set_at img at < 2 ^ (16 * k) → k < set_words → word img (at + k) ≡ 0
unfolding set_at
none_from img at k b l = go k b l
  where
    go : (k : ℕ) → word img at + word img (at + 1) * 65536 + word img (at + 2) * 4294967296 + word img (at + 3) * 281474976710656 < 2 ^ (16 * k) → k < set_words
        → word img (at + k) ≡ 0
    go zero b l = rw (add-zero at) (omega arith)
    go (suc zero) b l = omega arith
    go (suc (suc zero)) b l = omega arith
    go (suc (suc (suc zero))) b l = omega arith
    go (suc (suc (suc (suc k)))) b l = absurd (omega arith)

module _ (img : List ℕ) (p used : ℕ) {first : ℕ} (ef : first ≡ prod_at img p + 2) (d : ℕ) where
  -- A symbol in a set that has no bit from so many words on is 0, if it is not one of these.
  in_set : (j : ℕ) → set_at img (first + j) < 2 ^ (16 * d) → (i : ℕ) → j + d ≤ i → i < j + set_words → symbol img p i ≡ 0
  unfolding symbol
  in_set j b i l h =
      let place : first + j + (i - j) ≡ symbol_at img p i = omega arith in
      let less : 16 * d ≤ 16 * (i - j) = omega arith in
      rw place at (none_from img (first + j) (i - j) (omega (arith, pow_mono less)) (omega arith))

  -- The four sets hold every unused symbol.
  module _ {f a b s₀ s₁ s₂ s₃ : ℕ} (ed : d ≡ used - min used (most_symbols - set_words)) (e : f ≡ min used (most_symbols - set_words)) (ea : a ≡ min (used + set_words) (most_symbols - set_words))
      (eb : b ≡ min (used + 2 * set_words) (most_symbols - set_words)) (e₀ : s₀ ≡ set_at img (first + f)) (e₁ : s₁ ≡ set_at img (first + a))
      (e₂ : s₂ ≡ set_at img (first + b)) (e₃ : s₃ ≡ set_at img (first + (most_symbols - set_words)))
      (none : bit_or (bit_or s₀ s₁) (bit_or s₂ s₃) < 2 ^ (16 * d)) where
    unused : (i : ℕ) → used ≤ i → i < most_symbols → symbol img p i ≡ 0
    unused i u h = go (ltb i (f + set_words)) refl (ltb i (most_symbols - set_words)) refl (ltb i (used + 2 * set_words)) refl
      where
        below : (bit_or s₀ s₁ < 2 ^ (16 * d)) × (bit_or s₂ s₃ < 2 ^ (16 * d))
        below = (omega (arith, or_left (bit_or s₀ s₁) (bit_or s₂ s₃)), omega (arith, or_right (bit_or s₀ s₁) (bit_or s₂ s₃)))

        go : (x : Bool) → ltb i (f + set_words) ≡ x → (y : Bool) → ltb i (most_symbols - set_words) ≡ y → (w : Bool) → ltb i (used + 2 * set_words) ≡ w
            → symbol img p i ≡ 0
        go true x y y' w w' = in_set f (omega (arith, below.0, or_left s₀ s₁)) i (omega arith) (ltb-true i (f + set_words) x)
        go false x false y w w' =
            let l : f + set_words ≤ i = ltb-false i (f + set_words) x in
            let k : most_symbols - set_words ≤ i = ltb-false i (most_symbols - set_words) y in
            in_set (most_symbols - set_words) (omega (arith, below.1, or_right s₂ s₃)) i (omega (arith, l, k)) (omega arith)
        go false x true y true w =
            let l : f + set_words ≤ i = ltb-false i (f + set_words) x in
            let k : i < most_symbols - set_words = ltb-true i (most_symbols - set_words) y in
            let m : i < used + 2 * set_words = ltb-true i (used + 2 * set_words) w in
            in_set a (omega (arith, below.0, or_right s₀ s₁)) i (omega (arith, l, k)) (omega (arith, l, k, m))
        go false x true y false w =
            let l : f + set_words ≤ i = ltb-false i (f + set_words) x in
            let k : i < most_symbols - set_words = ltb-true i (most_symbols - set_words) y in
            let m : used + 2 * set_words ≤ i = ltb-false i (used + 2 * set_words) w in
            in_set b (omega (arith, below.1, or_left s₂ s₃)) i (omega (arith, l, k, m)) (omega (arith, l, k, m))

pub returns : goal.returns
returns c =
    record {
      each = unused _ _ _ (ap (λ (k : ℕ). k + 2) c.prod_at-first.ensures.0) _ refl c.last_set.ensures c.last_set-2.ensures
          c.last_set-3.ensures c.set_at.ensures c.set_at-2.ensures c.set_at-3.ensures c.set_at-4.ensures;
    }
