-- Laws of the test of K1, as the code comes by them. Assumes nothing.
use mathlib.Core.Path.{◌≡◌, refl, sym, ap, ◌∙◌}
use mathlib.Core.Bool.{Bool, true, false, not, beq}
use mathlib.Core.List.{List}
use Prim.Native.Nat.{ℕ, ◌<◌}
use native.Mathlib.Omega.{arith}
use lib.Dec.{ltb}
use borrow.Author.Tests.{ltb-true, ltb-false}
use Rattle.sets.specs.Sets.{member}
use Rattle.sets.proofs.Laws.{has-lt, has-or}
use Rattle.pack.specs.Image.{acc, rej}
use Rattle.conditions.specs.Tests.{same, implies}
use Rattle.conditions.specs.Conditions.{matched, outranked}
use Rattle.conditions.proofs.TestLaws.{false-true, not_true, same_is, same_all, member-has, has-member}
use Rattle.edges.specs.Rows.{Next}

-- Whether two tests differ.
agreed : (a b : Bool) → not (beq a b) ≡ false → a ≡ b
agreed true true d = refl
agreed true false d = cc
agreed false true d = cc
agreed false false d = refl

apart : (a b : Bool) → not (beq a b) ≡ true → a ≡ b → ⊥
apart true true d e = false-true d
apart true false d e = cc
apart false true d e = cc
apart false false d e = false-true d

-- The test of a terminal for K1.
module _ (img : List ℕ) (q t : ℕ) {rj m : ℕ} {a b : Bool} (er : rj ≡ rej img q) (em : m ≡ matched img q) (ea : a ≡ member rj t) (eb : b ≡ outranked img m t) where
  abbrev pub one : Bool → Type 0
  one x = same (member (rej img q) t) (outranked img (matched img q) t) ≡ x

  pub k1_alike : not (beq a b) ≡ false → one true
  k1_alike d =
      let e : a ≡ b = agreed a b d in
      let z : member (rej img q) t ≡ outranked img (matched img q) t = sym (ea ∙ ap (λ (x : ℕ). member x t) er) ∙ e ∙ eb ∙ ap (λ (x : ℕ). outranked img x t) em in
      same_all _ _ (λ h. sym z ∙ h) (λ h. z ∙ h)

  pub k1_apart : not (beq a b) ≡ true → one false
  k1_apart d = not_true _ (λ e. apart a b d (ea ∙ ap (λ (x : ℕ). member x t) er ∙ same_is _ _ e ∙ sym (eb ∙ ap (λ (x : ℕ). outranked img x t) em)))

-- What does not match is neither rejected nor outranked.
pub k1_past : (img : List ℕ) (q : ℕ) {m b t : ℕ} → m ≡ matched img q → Next (member m) 64 b t
    → ((i : ℕ) → i < b → same (member (rej img q) i) (outranked img (matched img q) i) ≡ true) → (i : ℕ) → i < t → same (member (rej img q) i) (outranked img (matched img q) i) ≡ true
unfolding outranked same implies
k1_past img q {m} {b} {t} em next before i l = go (ltb i b) refl
  where
    go : (x : Bool) → ltb i b ≡ x → same (member (rej img q) i) (outranked img (matched img q) i) ≡ true
    go true e = before i (ltb-true i b e)
    go false e =
        let out : member (matched img q) i ≡ false = rw em at (next.none i (ltb-false i b e) l) in
        let not : member (rej img q) i ≡ false =
        not_true _ (λ f. false-true (sym out ∙ has-member (matched img q) i (omega (arith, member-has (rej img q) i f, has-or (acc img q) (rej img q) i, has-lt (acc img q) i)))) in
        rw (not, out)
