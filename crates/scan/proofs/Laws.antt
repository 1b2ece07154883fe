-- One law for each way out of the loop of a scan, in the order of the code, and one for its end. Assumes nothing.
use mathlib.Core.Path.{◌≡◌, refl, sym, ◌∙◌}
use mathlib.Core.List.{List, []}
use mathlib.Core.Bool.{Bool, true, false}
use Prim.Native.Nat.{ℕ, zero, suc, ◌+◌, ◌-◌, ◌<◌, ◌≤◌, min}
use native.Mathlib.Omega.{arith}
use lib.ListN.{length, get_or, take, drop, length-drop, drop_of_length-le}
use lib.Seq.{drop-cons, drop-drop, take_all}
use lib.Bits.{bit_and}
use lib.Dec.{ltb}
use borrow.Author.Tests.{eq-eqb, ne_eqb, lt-ltb, le-ltb, ltb-true, ltb-false}
use Rattle.sets.specs.Sets.{meet, is_empty}
use Rattle.numbers.specs.Verdicts.{Good, Wrong}
use Rattle.numbers.specs.Codes.{query_too_long, wrong_shape}
use Rattle.pack.specs.Image.{scan_states, classes, class_of, move, acc, rej, poss, all_but_end}
use Rattle.shape.specs.Shape.{shape}
use Rattle.shape.proofs.Good.{good_move}
use Rattle.classes.specs.Ready.{Ready}
use Rattle.scan.specs.declared.Remembered.{Remembered}
use Rattle.scan.specs.Scan.{Stop, remember, stopped, used_up, move_on, onward, scan_from, scan, refused, answer, scan_alone}

-- A move leads to a scan state.
pub move_in : (img : List ℕ) (q c : ℕ) → Ready img → q < scan_states img → c < classes img → move img q c ≤ scan_states img
move_in img q c ready h k = good_move img ready.good q c h k

-- A stop, whatever is left of the allowance; a move, with nothing left of it and with more.
pub stops : (img : List ℕ) (v left : ℕ) (bytes : List ℕ) (q n : ℕ) (kept : Remembered) → onward img v q bytes ≡ 0 → scan_from img v left bytes q n kept ≡ stopped kept n
unfolding scan_from
stops img v zero bytes q n kept e = simp (scan_from, e)
stops img v (suc left) bytes q n kept e = simp (scan_from, e)

pub stops_spent : (img : List ℕ) (v : ℕ) (bytes : List ℕ) (q n p : ℕ) (kept : Remembered) → onward img v q bytes ≡ suc p → scan_from img v 0 bytes q n kept ≡ used_up n
unfolding scan_from
stops_spent img v bytes q n p kept e = simp (scan_from, e)

pub goes_on : (img : List ℕ) (v left : ℕ) (bytes : List ℕ) (q n p : ℕ) (kept : Remembered) → onward img v q bytes ≡ suc p
    → scan_from img v (suc left) bytes q n kept ≡ scan_from img v left (drop 1 bytes) p (n + 1) (remember (meet (acc img p) v) (meet (rej img p) v) (n + 1) kept)
unfolding scan_from
goes_on img v left bytes q n p kept e = simp (scan_from, e)

-- The scan in state q after n moves, over the rest of the bytes: nothing valid is possible; no byte is left; there is no move; the allowance is
-- used up; it goes on.
pub scan_impossible : (img : List ℕ) (v allowance : ℕ) (bytes : List ℕ) (q n : ℕ) (kept : Remembered) → bit_and (poss img q) v ≡ 0
    → scan_from img v (allowance - n) (drop n bytes) q n kept ≡ stopped kept n
unfolding onward is_empty
scan_impossible img v allowance bytes q n kept h = stops img v (allowance - n) (drop n bytes) q n kept (simp (onward, is_empty, eq-eqb _ _ h))

pub scan_over : (img : List ℕ) (v allowance : ℕ) (bytes : List ℕ) (q n : ℕ) (kept : Remembered) → length bytes ≤ n
    → scan_from img v (allowance - n) (drop n bytes) q n kept ≡ stopped kept n
unfolding onward move_on is_empty
scan_over img v allowance bytes q n kept h = rw (drop_of_length-le bytes h) (stops img v (allowance - n) [] q n kept (end (is_empty (meet (poss img q) v)) refl))
  where
    end : (b : _) → is_empty (meet (poss img q) v) ≡ b → onward img v q [] ≡ 0
    end true e = simp (onward, e)
    end false e = simp (onward, move_on, e)

moving : (img : List ℕ) (v : ℕ) (bytes : List ℕ) (q n to : ℕ) → n < length bytes → (bit_and (poss img q) v ≡ 0 → ⊥) → to ≡ move img q (class_of img (get_or bytes n 0))
    → onward img v q (drop n bytes) ≡ to
unfolding onward move_on is_empty
moving img v bytes q n to h s e = rw (drop-cons bytes n 0 h) (simp (onward, move_on, is_empty, ne_eqb _ _ s, ← e))

pub scan_stuck : (img : List ℕ) (v allowance : ℕ) (bytes : List ℕ) (q n : ℕ) (kept : Remembered) → n < length bytes → (bit_and (poss img q) v ≡ 0 → ⊥)
    → 0 ≡ move img q (class_of img (get_or bytes n 0)) → scan_from img v (allowance - n) (drop n bytes) q n kept ≡ stopped kept n
scan_stuck img v allowance bytes q n kept h s e = stops img v (allowance - n) (drop n bytes) q n kept (moving img v bytes q n 0 h s e)

pub scan_spent : (img : List ℕ) (v allowance : ℕ) (bytes : List ℕ) (q n : ℕ) (kept : Remembered) → n < length bytes → (bit_and (poss img q) v ≡ 0 → ⊥)
    → (move img q (class_of img (get_or bytes n 0)) ≡ 0 → ⊥) → allowance ≤ n → scan_from img v (allowance - n) (drop n bytes) q n kept ≡ used_up n
scan_spent img v allowance bytes q n kept h s t k =
    let to : ℕ = move img q (class_of img (get_or bytes n 0)) in
    let z : allowance - n ≡ 0 = omega arith in
    let e : suc (to - 1) ≡ to = omega arith in
    rw z (stops_spent img v (drop n bytes) q n (to - 1) kept (moving img v bytes q n (suc (to - 1)) h s e))

pub scan_on : (img : List ℕ) (v allowance : ℕ) (bytes : List ℕ) (q n p : ℕ) (kept now : Remembered) → n < length bytes → (bit_and (poss img q) v ≡ 0 → ⊥)
    → suc p ≡ move img q (class_of img (get_or bytes n 0)) → n < allowance
    → now ≡ remember (meet (acc img p) v) (meet (rej img p) v) (n + 1) kept
    → scan_from img v (allowance - n) (drop n bytes) q n kept ≡ scan_from img v (allowance - (n + 1)) (drop (n + 1) bytes) p (n + 1) now
scan_on img v allowance bytes q n p kept now h s e k r =
    let z : allowance - n ≡ suc (allowance - (n + 1)) = omega arith in
    rw (z, r) (goes_on img v (allowance - (n + 1)) (drop n bytes) q n p kept (moving img v bytes q n (suc p) h s e) ∙ rw (drop-drop 1 n bytes) refl)

-- Where no more bytes are to be looked at there is none, or the whole scan is made in another way.
pub either_end : (img : List ℕ) (v allowance : ℕ) (bytes : List ℕ) (q n : ℕ) (kept : Remembered) (r : Stop)
    → (n < length bytes → r ≡ scan img v allowance bytes) → (length bytes ≤ n → r ≡ stopped kept n)
    → scan_from img v (allowance - n) (drop n bytes) q n kept ≡ scan img v allowance bytes → r ≡ scan img v allowance bytes
either_end img v allowance bytes q n kept r another end same = go (ltb n (length bytes)) refl
  where
    go : (x : Bool) → ltb n (length bytes) ≡ x → r ≡ scan img v allowance bytes
    go true f = another (ltb-true n (length bytes) f)
    go false f = let h = ltb-false n (length bytes) f in end h ∙ (sym (scan_over img v allowance bytes q n kept h) ∙ same)

-- "the rest of the text from the place on", as the code takes it.
pub rest_of : (text : List ℕ) (place : ℕ) → take (length text - place) (drop place text) ≡ drop place text
rest_of text place = take_all (length text - place) (drop place text) (omega (arith, length-drop place text))

-- The ways out of the scan called by itself.
module _ (img text : List ℕ) (start set allowance : ℕ) where
  pub alone_long : 65535 < length text → refused query_too_long 0 ≡ scan_alone img text start set allowance
  unfolding scan_alone
  alone_long h = simp (scan_alone, lt-ltb _ _ h)

  module _ (h : length text ≤ 65535) where
    pub alone_wrong : (p : ℕ) → Wrong p ≡ shape img → refused wrong_shape p ≡ scan_alone img text start set allowance
    unfolding scan_alone
    alone_wrong p e = simp (scan_alone, le-ltb _ _ h, sym e)

    pub alone_scan : {p t : ℕ} {rest : List ℕ} {stop : Stop} → Good ≡ shape img → p ≡ min start (length text) → t ≡ all_but_end img → rest ≡ drop p text
        → stop ≡ scan img (bit_and set t) allowance rest → answer p stop ≡ scan_alone img text start set allowance
    unfolding scan_alone
    alone_scan g ep et er es = simp (scan_alone, le-ltb _ _ h, sym g, ← ep, ← et, ← er, ← es)
