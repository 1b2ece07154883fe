-- What it is to lead and to match, for a pack of good shape: the state that bytes lead to is one, and so is the last place, which is past
-- the first byte. Assumes nothing.
use mathlib.Core.Path.{◌≡◌, refl, sym, ◌∙◌}
use mathlib.Core.Bool.{Bool, true, false}
use mathlib.Core.List.{List, [], ◌∷◌}
use Prim.Native.Nat.{ℕ, zero, suc, ◌<◌, ◌≤◌}
use native.Mathlib.Omega.{arith}
use lib.Dec.{ltb}
use lib.Bits.{and_zero_l}
use borrow.Author.Tests.{ltb-true, ltb-false}
use Rattle.numbers.specs.Verdicts.{Good}
use Rattle.pack.specs.Image.{scan_states, class_of, move}
use Rattle.shape.specs.Shape.{shape}
use Rattle.shape.proofs.Good.{good_start, good_laid, good_move, good_class}
use Rattle.scan.specs.Matching.{led_from, Leads, Last}

-- Bytes lead to one scan state.
pub same_state : {img bytes : List ℕ} {p q : ℕ} → Leads img bytes p → Leads img bytes q → p ≡ q
same_state a b = let z = sym a.way ∙ b.way in omega arith

-- There is one last place.
pub one_last : {img bytes : List ℕ} {v n m p q : ℕ} → Last img bytes v n p → Last img bytes v m q → n ≡ m
one_last {n = n} {m = m} {p = p} {q = q} a b = go (ltb n m) refl (ltb m n) refl
  where
    go : (x : Bool) → ltb n m ≡ x → (y : Bool) → ltb m n ≡ y → n ≡ m
    go true e y f = absurd (b.here (a.after m q (ltb-true n m e) b.within b.leads))
    go false e true f = absurd (a.here (b.after n p (ltb-true m n f) a.within a.leads))
    go false e false f = omega (arith, ltb-false n m e, ltb-false m n f)

pub same_last : {img bytes : List ℕ} {v n m p q : ℕ} → Last img bytes v n p → Last img bytes v m q → p ≡ q
same_last a b = same_state a.leads (rw (← one_last a b) at b.leads)

module _ (img : List ℕ) (good : shape img ≡ Good) where
  -- Moves stay within the scan states.
  led_from_lem : (bytes : List ℕ) (q p : ℕ) → q < scan_states img → led_from img q bytes ≡ suc p → p < scan_states img
  unfolding led_from
  led_from_lem [] q p l e = omega arith
  led_from_lem (b ∷ bytes) q p l e = go (led_from_lem bytes) (move img q (class_of img b)) refl e
    where
      go : ((r u : ℕ) → r < scan_states img → led_from img r bytes ≡ suc u → u < scan_states img)
          → (m : ℕ) → move img q (class_of img b) ≡ m → elim m as (λ x. ℕ) [ zero ↦ 0 | suc r ↦ led_from img r bytes ] ≡ suc p → p < scan_states img
      go ih zero f g = absurd (omega arith)
      go ih (suc r) f g = ih r p (omega (arith, f, good_move img good q (class_of img b) l (good_class img good b))) g

  pub led : {bytes : List ℕ} {q : ℕ} → Leads img bytes q → q < scan_states img
  led {bytes} {q} l = led_from_lem bytes 0 q (omega (arith, good_laid img good)) l.way

-- A last place is past the first byte, since scan state 0 accepts and rejects nothing.
pub some_bytes : {img : List ℕ} → shape img ≡ Good → {bytes : List ℕ} {v n q : ℕ} → Last img bytes v n q → 1 ≤ n
unfolding led_from
some_bytes {img} good {v = v} {n = zero} {q = q} l =
    let y : suc 0 ≡ suc q = l.leads.way in
    let z : 0 ≡ q = omega arith in
    let b = good_start img good in
    absurd (l.here (rw (← z, b.0, b.1) (and_zero_l v)))
some_bytes good {n = suc n} l = omega arith
