-- Laws of the test of K2, as the code comes by them. Assumes nothing.
use mathlib.Core.Path.{◌≡◌, refl, sym, ap, ap₂, ◌∙◌}
use mathlib.Core.Bool.{Bool, true, false}
use mathlib.Core.List.{List}
use Prim.Native.Nat.{ℕ, zero, suc, ◌-◌, ◌<◌}
use native.Mathlib.Omega.{arith}
use Rattle.sets.specs.Sets.{subset}
use Rattle.pack.specs.Image.{classes, poss, move}
use Rattle.conditions.specs.Conditions.{matched, within, k2}
use Rattle.conditions.proofs.TestLaws.{all_false, all_true}

-- A move of K2, and its whole.
pub within_state : (img : List ℕ) (q code : ℕ) {a b : ℕ} {r : Bool} → (code ≡ 0 → ⊥) → a ≡ poss img (code - 1) → b ≡ poss img q → r ≡ subset a b → r ≡ within img q code
unfolding within
within_state img q zero n ea eb er = absurd (n refl)
within_state img q (suc p) {a} {b} {r} n ea eb er = let z : suc p - 1 ≡ p = omega arith in er ∙ ap₂ (λ (x y : ℕ). subset x y) (rw z at ea) eb

module _ (img : List ℕ) (q : ℕ) {m p : ℕ} {s : Bool} (em : m ≡ matched img q) (ep : p ≡ poss img q) (es : s ≡ subset m p) where
  first_part : {x : Bool} → s ≡ x → subset (matched img q) (poss img q) ≡ x
  first_part ex = ap₂ (λ (u v : ℕ). subset u v) (sym em) (sym ep) ∙ sym es ∙ ex

  pub k2_out : s ≡ false → false ≡ k2 img q
  unfolding k2
  k2_out e = sym (rw (first_part e))

  pub k2_fails : {c : ℕ} → s ≡ true → c < classes img → within img q (move img q c) ≡ false → false ≡ k2 img q
  unfolding k2
  k2_fails {c} e l f = sym (rw (first_part e, all_false (classes img) (λ c. within img q (move img q c)) c l f))

  pub k2_holds : s ≡ true → ((c : ℕ) → c < classes img → within img q (move img q c) ≡ true) → true ≡ k2 img q
  unfolding k2
  k2_holds e h = sym (rw (first_part e, all_true (classes img) (λ c. within img q (move img q c)) h))

pub move_test : (img : List ℕ) (q c : ℕ) {code : ℕ} {r x : Bool} → code ≡ move img q c → r ≡ within img q code → r ≡ x → within img q (move img q c) ≡ x
move_test img q c e er ex = ap (λ (z : ℕ). within img q z) (sym e) ∙ sym er ∙ ex
