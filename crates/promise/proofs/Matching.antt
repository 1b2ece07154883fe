-- For a pack of good shape terminal 0 is in no set of a scan state, so that a valid set may have it or not. Assumes nothing.
use mathlib.Core.Path.{◌≡◌, refl, sym, ap, ◌∙◌}
use mathlib.Core.Bool.{Bool, true, false}
use mathlib.Core.List.{List}
use Prim.Native.Nat.{ℕ, zero, suc, ◌<◌, ◌^◌}
use native.Mathlib.Omega.{arith}
use lib.Dec.{ltb}
use lib.Bits.{bit_and, and_le_l, or_lt}
use borrow.Author.Tests.{ltb-true, ltb-false}
use Rattle.sets.specs.Sets.{has, meet, less, single}
use Rattle.sets.proofs.Laws.{has-lt, has_none, has_above, has-suc, has-and, has-or, has_less, ext}
use Rattle.pack.specs.Image.{terminals, scan_states, acc, rej}
use Rattle.numbers.specs.Verdicts.{Good}
use Rattle.shape.specs.Shape.{shape}
use Rattle.shape.proofs.Good.{good_acc, good_rej}
use Rattle.conditions.specs.Conditions.{matched}
use Rattle.scan.specs.Matching.{Last}
use Rattle.scan.proofs.Matching.{led}

-- What is in a set of k terminals is below k.
pub has_below : {x k : ℕ} (t : ℕ) → x < 2 ^ k → has x t ≡ 1 → t < k
has_below {x} {k} t l h = go (ltb t k) refl
  where
    go : (y : Bool) → ltb t k ≡ y → t < k
    go true e = ltb-true _ _ e
    go false e = absurd (omega (arith, h, has_above t l (ltb-false _ _ e)))

-- What is accepted and in a set is something of the set that matches.
pub some_matched : (img : List ℕ) (q v t : ℕ) → has (acc img q) t ≡ 1 → has v t ≡ 1 → meet (matched img q) v ≡ 0 → ⊥
some_matched img q v t a d e =
    omega (arith, ap (λ (x : ℕ). has x t) e, has_none t, has-and (matched img q) v t, has-or (acc img q) (rej img q) t, has-lt (rej img q) t, a, d)

-- A set without terminal 0 meets V less bit 0 as it meets V.
no_end : (k x v : ℕ) → x < 2 ^ k → has x 0 ≡ 0 → meet x (less v (single 0)) ≡ meet x v
no_end k x v l e =
    ext k (bit_and x (less v (single 0))) (bit_and x v) (omega (arith, and_le_l x (less v (single 0)))) (omega (arith, and_le_l x v)) (λ t h. go t)
  where
    go : (t : ℕ) → has (bit_and x (less v (single 0))) t ≡ has (bit_and x v) t
    go zero = omega (arith, has-and x (less v (single 0)) 0, has-and x v 0)
    go (suc t) = omega (arith, has-and x (less v (single 0)) (suc t), has-and x v (suc t), has_less v 1 (suc t), has-suc 1 t, has_none t)

module _ (img : List ℕ) (good : shape img ≡ Good) where
  -- What is accepted, and what matches, of V less bit 0 and of V.
  pub same_accepted : (q v : ℕ) → q < scan_states img → meet (acc img q) (less v (single 0)) ≡ meet (acc img q) v
  same_accepted q v l = no_end (terminals img) (acc img q) v (good_acc img good q l).0 (good_acc img good q l).1

  pub matched_below : (q : ℕ) → q < scan_states img → matched img q < 2 ^ terminals img
  matched_below q l = or_lt (terminals img) (acc img q) (rej img q) (good_acc img good q l).0 (good_rej img good q l).0

  same_matched : (q v : ℕ) → q < scan_states img → meet (matched img q) (less v (single 0)) ≡ meet (matched img q) v
  same_matched q v l =
      no_end (terminals img) (matched img q) v (matched_below q l)
      (omega (arith, has-or (acc img q) (rej img q) 0, (good_acc img good q l).1, (good_rej img good q l).1))

  -- The last place for the one is the last place for the other.
  pub with_end : {bytes : List ℕ} {v n q : ℕ} → Last img bytes (less v (single 0)) n q → Last img bytes v n q
  with_end {bytes} {v} {n} {q} l =
      record {
        within = l.within;
        leads = l.leads;
        here = λ z. l.here (same_matched q v (led img good l.leads) ∙ z);
        after = λ m p h w f. sym (same_matched p v (led img good f)) ∙ l.after m p h w f;
      }

  pub without_end : {bytes : List ℕ} {v n q : ℕ} → Last img bytes v n q → Last img bytes (less v (single 0)) n q
  without_end {bytes} {v} {n} {q} l =
      record {
        within = l.within;
        leads = l.leads;
        here = λ z. l.here (sym (same_matched q v (led img good l.leads)) ∙ z);
        after = λ m p h w f. same_matched p v (led img good f) ∙ l.after m p h w f;
      }
