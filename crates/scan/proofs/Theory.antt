-- What a scan gives, for callers that do not look into its definition. Assumes nothing.
use mathlib.Core.Path.{◌≡◌, refl, sym, ap, ◌∙◌}
use mathlib.Core.Bool.{Bool, true, false}
use mathlib.Core.List.{List, [], ◌∷◌}
use Prim.Native.Nat.{ℕ, zero, suc, ◌+◌, ◌<◌, ◌≤◌, ◌^◌}
use native.Mathlib.Nat.{zero-add}
use native.Mathlib.Omega.{arith}
use lib.Dec.{eqb}
use lib.ListN.{length}
use lib.Bits.{bit_and, and_le_l}
use borrow.Author.Tests.{eqb-true, eqb-false}
use Rattle.sets.specs.Sets.{has, is_empty}
use Rattle.sets.proofs.Laws.{has-lt, has_none, has-and, ext}
use Rattle.numbers.specs.Verdicts.{Good}
use Rattle.pack.specs.Image.{terminals, scan_states, class_of, move, acc, rej, poss}
use Rattle.shape.specs.Shape.{shape}
use Rattle.shape.proofs.Good.{good_laid, good_move, good_class, good_acc, good_rej, good_poss}
use Rattle.scan.specs.declared.Remembered.{Remembered}
use Rattle.scan.specs.Scan.{Stop}
use Rattle.scan.specs.Scan.{nothing, remember, stopped, used_up, move_on, onward, scan_from, scan}
use Rattle.conditions.specs.Conditions.{Subset}
use Rattle.std.specs.Prelude.{Option, Some, None, Result, Ok, Err, IfOk, IfSome}
use Rattle.scan.specs.declared.Matched.{Matched}
use Rattle.scan.specs.declared.UsedUp.{UsedUp}
use Rattle.scan.specs.declared.Found.{Found}
use Rattle.scan.specs.Found.{kept_of, stop_of}
use Rattle.scan.proofs.Laws.{stops}

-- The ways that one byte of a scan can go, and the end of the bytes. Theorems about the scan go by these and never look into it.
module _ (img : List ℕ) (v : ℕ) where
  pub data Way (left b : ℕ) (bytes : List ℕ) (q n : ℕ) (kept : Remembered) : Type 0 where
    nowhere : bit_and (poss img q) v ≡ 0 → scan_from img v left (b ∷ bytes) q n kept ≡ stopped kept n → Way left b bytes q n kept
    no_way : move img q (class_of img b) ≡ 0 → scan_from img v left (b ∷ bytes) q n kept ≡ stopped kept n → Way left b bytes q n kept
    spent : left ≡ 0 → scan_from img v left (b ∷ bytes) q n kept ≡ used_up n → Way left b bytes q n kept
    goes : (less p : ℕ) → left ≡ suc less → move img q (class_of img b) ≡ suc p
        → scan_from img v left (b ∷ bytes) q n kept
        ≡ scan_from img v less bytes p (n + 1) (remember (bit_and (acc img p) v) (bit_and (rej img p) v) (n + 1) kept) → Way left b bytes q n kept

  pub way : (left b : ℕ) (bytes : List ℕ) (q n : ℕ) (kept : Remembered) → Way left b bytes q n kept
  unfolding scan_from onward move_on is_empty
  way left b bytes q n kept = go left (eqb (bit_and (poss img q) v) 0) refl (move img q (class_of img b)) refl
    where
      go : (l : ℕ) (x : Bool) → eqb (bit_and (poss img q) v) 0 ≡ x → (y : ℕ) → move img q (class_of img b) ≡ y → Way l b bytes q n kept
      go l true e y f = nowhere (eqb-true _ _ e) (stops img v l (b ∷ bytes) q n kept (simp (onward, is_empty, e)))
      go l false e zero f = no_way f (stops img v l (b ∷ bytes) q n kept (simp (onward, move_on, is_empty, e, f)))
      go zero false e (suc p) f = spent refl (simp (scan_from, onward, move_on, is_empty, e, f))
      go (suc l) false e (suc p) f = goes l p refl f (simp (scan_from, onward, move_on, is_empty, e, f))

  pub at_end : (left q n : ℕ) (kept : Remembered) → scan_from img v left [] q n kept ≡ stopped kept n
  unfolding onward move_on is_empty
  at_end left q n kept = stops img v left [] q n kept (go (eqb (bit_and (poss img q) v) 0) refl)
    where
      go : (x : Bool) → eqb (bit_and (poss img q) v) 0 ≡ x → onward img v q [] ≡ 0
      go true e = simp (onward, is_empty, e)
      go false e = simp (onward, is_empty, e)

-- What is remembered after n moves: no terminal and length 0, or some of the valid set and a length from 1 to n.
pub record Holding (v n : ℕ) (kept : Remembered) : Type 0 where
  pub none : kept.set ≡ 0 → kept.length ≡ 0
  pub some : (kept.set ≡ 0 → ⊥) → 1 ≤ kept.length
  pub within : kept.length ≤ n
  pub part : Subset kept.set v

-- What stands at a stop.
pub record Stopped (v allowance most : ℕ) (stop : Stop) : Type 0 where
  pub none : stop.set ≡ 0 → stop.length ≡ 0
  pub some : (stop.set ≡ 0 → ⊥) → 1 ≤ stop.length
  pub within : stop.length ≤ most
  pub part : Subset stop.set v
  pub moves_within : stop.moves ≤ most
  pub moves_allowed : stop.moves ≤ allowance
  pub moves_spent : stop.spent ≡ true → stop.moves ≡ allowance

empty_part : (v : ℕ) → Subset 0 v
empty_part v = record { each = λ t e. absurd (omega (arith, has_none t)) }

holds_nothing : (v n : ℕ) → Holding v n nothing
holds_nothing v n = record { none = λ e. refl; some = λ e. absurd (e refl); within = omega arith; part = empty_part v }

met_part : (a v : ℕ) → Subset (bit_and a v) v
met_part a v = record { each = λ t e. omega (arith, has-and a v t, has-lt a t, has-lt v t) }

remember_holds : (v a r n : ℕ) (kept : Remembered) → Holding v n kept → Holding v (n + 1) (remember (bit_and a v) r (n + 1) kept)
unfolding remember is_empty
remember_holds v a r n kept h = go (eqb (bit_and a v) 0) refl (eqb r 0) refl
  where
    go : (x : Bool) → eqb (bit_and a v) 0 ≡ x → (y : Bool) → eqb r 0 ≡ y → Holding v (n + 1) (remember (bit_and a v) r (n + 1) kept)
    go false e y f =
        simp (remember, is_empty, e)
        (record { none = λ z. absurd (eqb-false _ _ e z); some = λ z. omega arith; within = omega arith; part = met_part a v })
    go true e false f = simp (remember, is_empty, e, f) (holds_nothing v (n + 1))
    go true e true f = simp (remember, is_empty, e, f) (record { none = h.none; some = h.some; within = omega (arith, h.within); part = h.part })

module _ (img : List ℕ) (v allowance : ℕ) where
  at_stop : (n most : ℕ) (kept : Remembered) → Holding v n kept → n ≤ most → n ≤ allowance → Stopped v allowance most (stopped kept n)
  at_stop n most kept h l k =
      record {
        none = h.none;
        some = h.some;
        within = omega (arith, h.within);
        part = h.part;
        moves_within = l;
        moves_allowed = k;
        moves_spent = λ e. let z : ◌≡◌ {A = ℕ} 0 1 = cc in absurd (omega arith);
      }

  stops_from : (bytes : List ℕ) (left q n : ℕ) (kept : Remembered) → Holding v n kept → n + left ≡ allowance
      → Stopped v allowance (n + length bytes) (scan_from img v left bytes q n kept)
  stops_from [] left q n kept h k = rw (at_end img v left q n kept) (at_stop n (n + 0) kept h (omega arith) (omega arith))
  stops_from (b ∷ bytes) left q n kept h k = go (stops_from bytes) (way img v left b bytes q n kept)
    where
      go : ((l p m : ℕ) (w : Remembered) → Holding v m w → m + l ≡ allowance → Stopped v allowance (m + length bytes) (scan_from img v l bytes p m w))
          → Way img v left b bytes q n kept → Stopped v allowance (n + suc (length bytes)) (scan_from img v left (b ∷ bytes) q n kept)
      go ih (nowhere e f) = rw f (at_stop n _ kept h (omega arith) (omega arith))
      go ih (no_way e f) = rw f (at_stop n _ kept h (omega arith) (omega arith))
      go ih (spent l f) =
          rw f
          (record {
            none = λ e. refl;
            some = λ e. absurd (e refl);
            within = omega arith;
            part = empty_part v;
            moves_within = omega arith;
            moves_allowed = omega arith;
            moves_spent = λ e. omega arith;
          })
      go ih (goes less p l m f) =
          let z : n + suc (length bytes) ≡ n + 1 + length bytes = omega arith in
          rw (f, z) (ih less p (n + 1) (remember (bit_and (acc img p) v) (bit_and (rej img p) v) (n + 1) kept) (remember_holds v (acc img p) (bit_and (rej img p) v) n kept h) (omega arith))

  -- A match is at least one byte long and lies within the text; the moves are at most the allowance, and equal to it where it is used
  -- up; what is remembered is a part of the valid set.
  pub scan_stops : (bytes : List ℕ) → Stopped v allowance (length bytes) (scan img v allowance bytes)
  scan_stops bytes = rw (zero-add (length bytes)) at (stops_from bytes allowance 0 0 nothing (holds_nothing v 0) (zero-add allowance))

-- A scan does not depend on bits of the set at or above T.
module _ (img : List ℕ) (good : shape img ≡ Good) (v w allowance : ℕ) (same : (t : ℕ) → t < terminals img → has v t ≡ has w t) where
  same_meet : (x : ℕ) → x < 2 ^ terminals img → bit_and x v ≡ bit_and x w
  same_meet x l =
      ext (terminals img) (bit_and x v) (bit_and x w) (omega (arith, and_le_l x v)) (omega (arith, and_le_l x w))
      (λ t h. has-and x v t ∙ rw (same t h) (sym (has-and x w t)))

  same_from : (bytes : List ℕ) (left q n : ℕ) (kept : Remembered) → q < scan_states img → scan_from img v left bytes q n kept ≡ scan_from img w left bytes q n kept
  unfolding scan_from onward move_on is_empty
  same_from [] left q n kept l = at_end img v left q n kept ∙ sym (at_end img w left q n kept)
  same_from (b ∷ bytes) left q n kept l = go (same_from bytes) left (eqb (bit_and (poss img q) w) 0) refl (move img q (class_of img b)) refl
    where
      part : bit_and (poss img q) v ≡ bit_and (poss img q) w
      part = same_meet (poss img q) (good_poss img good q l).0

      -- The scan stops with either set.
      both : (k : ℕ) → onward img v q (b ∷ bytes) ≡ 0 → onward img w q (b ∷ bytes) ≡ 0 → scan_from img v k (b ∷ bytes) q n kept ≡ scan_from img w k (b ∷ bytes) q n kept
      both k e f = stops img v k (b ∷ bytes) q n kept e ∙ sym (stops img w k (b ∷ bytes) q n kept f)

      go : ((k p m : ℕ) (r : Remembered) → p < scan_states img → scan_from img v k bytes p m r ≡ scan_from img w k bytes p m r)
          → (k : ℕ) (x : Bool) → eqb (bit_and (poss img q) w) 0 ≡ x → (y : ℕ) → move img q (class_of img b) ≡ y
          → scan_from img v k (b ∷ bytes) q n kept ≡ scan_from img w k (b ∷ bytes) q n kept
      go ih k true e y f = both k (simp (onward, is_empty, part, e)) (simp (onward, is_empty, e))
      go ih k false e zero f = both k (simp (onward, move_on, is_empty, part, e, f)) (simp (onward, move_on, is_empty, e, f))
      go ih zero false e (suc p) f = simp (scan_from, onward, move_on, is_empty, part, e, f)
      go ih (suc k) false e (suc p) f =
          let h : p < scan_states img = omega (arith, f, good_move img good q (class_of img b) l (good_class img good b)) in
          simp (
            scan_from,
            onward,
            move_on,
            is_empty,
            part,
            e,
            f,
            same_meet (acc img p) (good_acc img good p h).0,
            same_meet (rej img p) (good_rej img good p h).0,
          ) (ih k p (n + 1) (remember (bit_and (acc img p) w) (bit_and (rej img p) w) (n + 1) kept) h)

  pub only_terminals : (bytes : List ℕ) → scan img v allowance bytes ≡ scan img w allowance bytes
  only_terminals bytes = same_from bytes allowance 0 0 nothing (omega (arith, good_laid img good))

-- A stop has one form in code, since a match is never of the empty set.
match_of : (a b c d : ℕ) → a ≡ b → c ≡ d → ◌≡◌ {A = Matched} (record { set = a; length = c }) (record { set = b; length = d })
match_of a b c d e f = cc

found_of : (a b : Result (Option Matched) UsedUp) (m n : ℕ) → a ≡ b → m ≡ n → ◌≡◌ {A = Found} (record { matched = a; moves = m }) (record { matched = b; moves = n })
found_of a b m n e f = cc

same_match : (a b : Option Matched) → IfSome a (λ m. m.set ≡ 0 → ⊥) → IfSome b (λ m. m.set ≡ 0 → ⊥) → kept_of a ≡ kept_of b → a ≡ b
same_match None None s t e = refl
same_match None (Some m) s t e = absurd (t (sym (ap (λ (k : Remembered). k.set) e)))
same_match (Some m) None s t e = absurd (s (ap (λ (k : Remembered). k.set) e))
same_match (Some m) (Some n) s t e =
    ap (λ (k : Matched). Some k) (match_of m.set n.set m.length n.length (ap (λ (k : Remembered). k.set) e) (ap (λ (k : Remembered). k.length) e))

same_result : (a b : Result (Option Matched) UsedUp) (m n : ℕ) → IfOk a (λ k. IfSome k (λ m. m.set ≡ 0 → ⊥)) → IfOk b (λ k. IfSome k (λ m. m.set ≡ 0 → ⊥))
    → stop_of (record { matched = a; moves = m }) ≡ stop_of (record { matched = b; moves = n }) → (a ≡ b) × (m ≡ n)
same_result (Ok a) (Ok b) m n s t e =
    let x : kept_of a ≡ kept_of b = ap (λ (r : Stop). record { set = r.set; length = r.length }) e in
    (ap (λ (k : Option Matched). Ok k) (same_match a b s t x), ap (λ (r : Stop). r.moves) e)
same_result (Ok a) (Err u) m n s t e = let z : false ≡ true = ap (λ (r : Stop). r.spent) e in absurd (cc)
same_result (Err u) (Ok b) m n s t e = let z : true ≡ false = ap (λ (r : Stop). r.spent) e in absurd (cc)
same_result (Err u) (Err w) m n s t e = (refl, ap (λ (r : Stop). r.moves) e)

pub one_found : (a b : Found) → IfOk a.matched (λ k. IfSome k (λ m. m.set ≡ 0 → ⊥)) → IfOk b.matched (λ k. IfSome k (λ m. m.set ≡ 0 → ⊥)) → stop_of a ≡ stop_of b → a ≡ b
one_found a b s t e = let r = same_result a.matched b.matched a.moves b.moves s t e in found_of a.matched b.matched a.moves b.moves r.0 r.1
