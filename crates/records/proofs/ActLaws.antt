-- Laws of the functions that do what a cell says: the tree, and one for each way out. Assumes nothing.
use mathlib.Core.Path.{◌≡◌, refl, sym, ap, ◌∙◌}
use mathlib.Core.Bool.{Bool, true, false}
use mathlib.Core.List.{List, [], ◌∷◌, ◌++◌, append_assoc}
use Prim.Native.Nat.{ℕ, zero, suc, ◌+◌, ◌-◌, ◌*◌, ◌<◌, ◌≤◌}
use native.Mathlib.Omega.{arith}
use native.Mathlib.Numerals.{sub-one}
use native.Mathlib.Nat.{add-zero}
use lib.ListN.{length, get_or, take, drop, length-append, length-drop}
use lib.Seq.{length-take-le, take_at, drop_at, get_or-drop}
use lib.Dec.{eqb, leb}
use borrow.Author.Tests.{le-leb, lt-leb, lt-ltb, le-ltb, leb-true, leb-false, eqb-true, eqb-false}
use Rattle.std.specs.Prelude.{Result, Ok, Err}
use Rattle.words.specs.declared.Action.{Action}
use Rattle.words.specs.declared.Action.TheVariants.{Error, Accept, Shift, Reduce}
use Rattle.numbers.specs.Codes.{tree_full, stack_full}
use Rattle.pack.specs.Image.{goto, lhs, len}
use Rattle.look.specs.declared.Spot.{Spot}
use Rattle.look.specs.Look.{past}
use Rattle.look.specs.declared.ParseError.{ParseError}
use Rattle.look.specs.declared.ParseError.TheVariants.{Unexpected, Stuck, TreeFull, StackFull}
use Rattle.records.specs.declared.Turned.{Turned}
use Rattle.records.specs.declared.Turned.TheVariants.{Accepted, Went}
use Rattle.records.specs.Parse.{Standing, Ending, ends, goes, ending, wrote, top, shift_to, reduce_by, accept, perform}
use Rattle.records.specs.Inner.{Turn, stops, turns, full, bounded, told, put4}

-- Four words put into the tree.
module _ (t : List ℕ) (n : ℕ) (words : List ℕ) (four : length words ≡ 4) (h : n + 4 ≤ length t) where
  put_split : put4 t n words ≡ (take n t ++ words) ++ drop (n + 4) t
  unfolding put4
  put_split = sym (append_assoc (take n t) words (drop (n + 4) t))

  front_length : length (take n t ++ words) ≡ n + 4
  front_length = length-append (take n t) words ∙ rw four (ap (λ (k : ℕ). k + 4) (length-take-le n t (omega arith)))

  pub take_put : take (n + 4) (put4 t n words) ≡ take n t ++ words
  take_put = rw put_split (take_at (take n t ++ words) _ _ front_length)

  pub drop_put : drop (n + 4) (put4 t n words) ≡ drop (n + 4) t
  drop_put = rw put_split (drop_at (take n t ++ words) _ _ front_length)

  pub length_put : length (put4 t n words) ≡ length t
  length_put = rw put_split (omega (arith, length-append (take n t ++ words) (drop (n + 4) t), front_length, length-drop (n + 4) t))

-- A step within the room and the stack.
module _ (here next : Standing) where
  pub no_room : (left : ℕ) → left ≡ 0 → bounded left (goes here next) ≡ stops (ending tree_full 0 0 here)
  unfolding bounded
  no_room zero e = refl
  no_room (suc left) e = absurd (omega arith)

  pub too_high : (left : ℕ) → (left ≡ 0 → ⊥) → 512 < length next.stack → bounded left (goes here next) ≡ stops (ending stack_full 0 0 here)
  unfolding bounded
  too_high zero n h = absurd (n refl)
  too_high (suc left) n h = simp (bounded, lt-leb _ _ h)

  pub goes_on : (left : ℕ) → (left ≡ 0 → ⊥) → length next.stack ≤ 512 → bounded left (goes here next) ≡ turns next
  unfolding bounded
  goes_on zero n h = absurd (n refl)
  goes_on (suc left) n h = simp (bounded, le-leb _ _ h)

  -- A record and a state that there is no room for.
  pub full-stops : (room records height : ℕ) {e : ParseError} → Err e ≡ full room records height → length next.stack ≡ height + 1
      → told (Err e) here ≡ bounded (room - records) (goes here next)
  unfolding full told
  full-stops room records height {e} is h = go (leb room records) refl (leb 512 height) refl
    where
      go : (x : Bool) → leb room records ≡ x → (y : Bool) → leb 512 height ≡ y → told (Err e) here ≡ bounded (room - records) (goes here next)
      go true f y g =
          let q : ◌≡◌ {A = Result (Unit {0}) ParseError} (Err e) (Err TreeFull) = is ∙ simp (full, f) in
          let z : e ≡ TreeFull = cc in
          rw z (sym (no_room (room - records) (omega (arith, leb-true room records f))))
      go false f true g =
          let q : ◌≡◌ {A = Result (Unit {0}) ParseError} (Err e) (Err StackFull) = is ∙ simp (full, f, g) in
          let z : e ≡ StackFull = cc in
          let l = leb-false room records f in
          rw z (sym (too_high (room - records) (λ n. omega arith) (omega (arith, h, leb-true 512 height g))))
      go false f false g = let z : ◌≡◌ {A = Result (Unit {0}) ParseError} (Err e) (Ok tt) = is ∙ simp (full, f, g) in absurd (cc)

pub bounded-ends : (left : ℕ) (e : Ending) → bounded left (ends e) ≡ stops e
unfolding bounded
bounded-ends zero e = refl
bounded-ends (suc left) e = refl

-- The step that goes on.
module _ (tree words : List ℕ) (records : ℕ) (four : length words ≡ 4) (fits : records * 4 + 4 ≤ length tree) where
  next : (records + 1) * 4 ≡ records * 4 + 4
  next = omega arith

  pub words_on : take ((records + 1) * 4) (put4 tree (records * 4) words) ≡ take (records * 4) tree ++ words
  words_on = rw next (take_put tree (records * 4) words four fits)

  pub rest_on : drop ((records + 1) * 4) (put4 tree (records * 4) words) ≡ drop ((records + 1) * 4) tree
  rest_on = rw next (drop_put tree (records * 4) words four fits)

module _ (here : Standing) (words : List ℕ) (room records n state : ℕ) (at : Spot) (some : n < length here.stack) where
  pub refused_told : {e : ParseError} → Err e ≡ full room records (length here.stack - n)
      → told (Err e) here ≡ bounded (room - records) (goes here (wrote words (state ∷ drop n here.stack) at here))
  refused_told is = full-stops _ _ room records (length here.stack - n) is (omega (arith, length-drop n here.stack))

  pub went_told : (next : Standing) → records < room → length here.stack - n < 512 → next.stack ≡ state ∷ drop n here.stack → next.words ≡ here.words ++ words
      → next.at ≡ at → told (Ok Went) next ≡ bounded (room - records) (goes here (wrote words (state ∷ drop n here.stack) at here))
  unfolding told
  went_told next l high es ew ea =
      rw (es, ew, ea) (sym (goes_on _ _ (room - records) (λ z. omega arith) (omega (arith, length-drop n here.stack))))

-- What the cell says, by its action.
module _ (img : List ℕ) (left : ℕ) (here : Standing) where
  pub reduce_short : (p : ℕ) → length here.stack ≤ len img p → told (Err Stuck) here ≡ bounded left (reduce_by img p here)
  unfolding told reduce_by
  reduce_short p l = simp (reduce_by, le-ltb _ _ l) (sym (bounded-ends left _))

  module _ (p : ℕ) (l : len img p < length here.stack) {u lh to : ℕ} (eu : u ≡ get_or here.stack (len img p) 0) (el : lh ≡ lhs img p) (eg : to ≡ goto img u lh) where
    rest_top : top (drop (len img p) here.stack) ≡ u
    rest_top = get_or-drop (len img p) here.stack 0 0 ∙ rw add-zero (sym eu)

    pub reduce_stuck : to ≡ 0 → told (Err Stuck) here ≡ bounded left (reduce_by img p here)
    unfolding told reduce_by
    reduce_stuck z = simp (reduce_by, lt-ltb _ _ l, rest_top, ← el, sym eg ∙ z) (sym (bounded-ends left _))

    pub reduces : {n a b d v : ℕ} → (to ≡ 0 → ⊥) → a ≡ 64 + lh → b ≡ p → n ≡ len img p → d ≡ n → v ≡ to - 1
        → bounded left (goes here (wrote (a ∷ b ∷ d ∷ u ∷ []) (v ∷ drop n here.stack) (past 0 here.at) here)) ≡ bounded left (reduce_by img p here)
    unfolding reduce_by
    reduces {n} {a} {b} {d} {v} nz ea eb en ed ev = rw (ea, eb, ed, en, ev) (go to eg nz)
      where
        go : (x : ℕ) → x ≡ goto img u lh → (x ≡ 0 → ⊥)
            → bounded left (goes here (wrote ((64 + lh) ∷ p ∷ len img p ∷ u ∷ []) ((x - 1) ∷ drop (len img p) here.stack) (past 0 here.at) here)) ≡ bounded left (reduce_by img p here)
        go zero f n = absurd (n refl)
        go (suc x) f n = rw (sub-one (suc x)) (simp (reduce_by, lt-ltb _ _ l, rest_top, ← el, ← f, add-zero))

  pub accept_told : {r : Result Turned ParseError} → (length here.stack ≡ 2 → r ≡ Ok Accepted) × ((length here.stack ≡ 2 → ⊥) → r ≡ Err Stuck) → told r here ≡ bounded left (accept here)
  unfolding told accept
  accept_told {r} e = go (eqb (length here.stack) 2) refl
    where
      go : (b : Bool) → eqb (length here.stack) 2 ≡ b → told r here ≡ bounded left (accept here)
      go true f = rw (e.0 (eqb-true _ _ f)) (simp (accept, f) (sym (bounded-ends left _)))
      go false f = rw (e.1 (eqb-false _ _ f)) (simp (accept, f) (sym (bounded-ends left _)))

  module _ (size terminal : ℕ) {a : Action} where
    pub perform_error : a ≡ Error → told (Err (Unexpected size terminal)) here ≡ bounded left (perform img a size terminal here)
    unfolding told perform
    perform_error e = rw e (sym (bounded-ends left _))

    module _ {t : Turn} where
      pub perform-accept : a ≡ Accept → t ≡ bounded left (accept here) → t ≡ bounded left (perform img a size terminal here)
      unfolding perform
      perform-accept e h = rw e h

      pub perform_shift : {s : ℕ} → a ≡ Shift s → t ≡ bounded left (shift_to s size terminal here) → t ≡ bounded left (perform img a size terminal here)
      unfolding perform
      perform_shift e h = rw e h

      pub perform_reduce : {p : ℕ} → a ≡ Reduce p → t ≡ bounded left (reduce_by img p here) → t ≡ bounded left (perform img a size terminal here)
      unfolding perform
      perform_reduce e h = rw e h
