-- The look of the manual's section 3.1 is right, for a pack that passes. Assumes nothing.
use mathlib.Core.Path.{◌≡◌, refl}
use mathlib.Core.Bool.{Bool, true, false}
use mathlib.Core.List.{List}
use Prim.Native.Nat.{ℕ, zero, suc, ◌+◌, ◌-◌, ◌<◌, ◌≤◌}
use native.Mathlib.Omega.{arith}
use lib.Dec.{eqb, leb}
use lib.ListN.{length, drop}
use borrow.Author.Tests.{eqb-true, eqb-false, leb-true, leb-false}
use Rattle.sets.specs.Sets.{has, member, is_empty}
use Rattle.sets.proofs.Laws.{has-lt}
use Rattle.pack.specs.Image.{states, layout, all_but_end_and_layout}
use Rattle.conditions.specs.Conditions.{Passes, sought}
use Rattle.scan.specs.Scan.{Stop}
use Rattle.scan.specs.Scan.{scan}
use Rattle.look.specs.declared.Spot.{Spot}
use Rattle.look.specs.Look.{Looked}
use Rattle.look.specs.Look.{scanned, past, seek, found, rescan, choose, sought_set, piece, is_layout, look_on, look}
use Rattle.promise.specs.Cover.{NoMatch, Blank, Blanks, none, more}
use Rattle.promise.specs.RightLook.{Sees, RightLook}
use Rattle.promise.specs.RightLook as Sight
use Rattle.promise.proofs.Leaves.{no_match, Taken, taken, a_blank, a_leaf, none_sought, other}

module _ (img : List ℕ) (passes : Passes img) (text : List ℕ) (allowance s from : ℕ) (ls : s < states img) where
  -- The second scan: it finds no layout.
  rescanned : (at : Spot) → Blanks img text s from at.place → at.place < length text → NoMatch img (drop at.place text) (sought img s)
      → Sees img text s from (rescan img text allowance at) × (is_layout img (rescan img text allowance at) ≡ false)
  unfolding rescan seek is_empty is_layout
  rescanned at b l n = go stop.spent refl (eqb stop.set 0) refl
    where
      stop : Stop
      stop = scan img (all_but_end_and_layout img) (allowance - at.moves) (drop at.place text)

      go : (x : Bool) → stop.spent ≡ x → (y : Bool) → eqb stop.set 0 ≡ y
          → Sees img text s from (rescan img text allowance at) × (is_layout img (rescan img text allowance at) ≡ false)
      go true e y f = simp (rescan, seek, e) (Sight.spent (scanned stop.moves at) b, refl)
      go false e true f =
          simp (rescan, seek, is_empty, e, f) (
            Sight.none (scanned stop.moves at) b
                (record { before_end = l; none_sought = n; no_other = no_match img passes text (allowance - at.moves) at.place (all_but_end_and_layout img) e (eqb-true _ _ f) }),
            refl,
          )
      go false e false f =
          simp (rescan, seek, is_empty, e, f)
          (Sight.other _ _ (scanned stop.moves at) b (other img passes text (allowance - at.moves) at.place s l n e (eqb-false _ _ f)), refl)

  -- What one piece comes to: layout, or what is seen.
  data Pieced (at : Spot) : Looked → Type 0 where
    blank : (size t moves : ℕ) → Blank img text s at.place size → is_layout img (found size t (scanned moves at)) ≡ true → Pieced at (found size t (scanned moves at))
    seen : {l : Looked} → Sees img text s from l → is_layout img l ≡ false → Pieced at l

  pieced : (at : Spot) → Blanks img text s from at.place → at.place < length text → Pieced at (piece img text allowance s at)
  unfolding piece seek is_empty choose is_layout member
  pieced at b l = go stop.spent refl (eqb stop.set 0) refl
    where
      stop : Stop
      stop = scan img (sought_set img s) (allowance - at.moves) (drop at.place text)

      go : (x : Bool) → stop.spent ≡ x → (y : Bool) → eqb stop.set 0 ≡ y → Pieced at (piece img text allowance s at)
      go true e y f = simp (piece, seek, e) (seen (Sight.spent (scanned stop.moves at) b) refl)
      go false e true f =
          let r = rescanned (scanned stop.moves at) b l (none_sought img passes text (allowance - at.moves) at.place s e (eqb-true _ _ f)) in
          simp (piece, seek, is_empty, e, f) (seen r.0 r.1)
      go false e false f = named (taken img passes text (allowance - at.moves) at.place s ls e (eqb-false _ _ f))
        where
          named : Taken img passes text (allowance - at.moves) at.place s stop → Pieced at (piece img text allowance s at)
          named t = kind (has (layout img) t.terminal) refl
            where
              kind : (h : ℕ) → has (layout img) t.terminal ≡ h → Pieced at (piece img text allowance s at)
              kind zero h =
                  simp (piece, seek, is_empty, choose, e, f, t.name)
                  (seen (Sight.token stop.length t.terminal (scanned stop.moves at) b (a_leaf img passes text (allowance - at.moves) at.place t.right h)) (simp (is_layout, member, h)))
              kind (suc zero) h =
                  simp (piece, seek, is_empty, choose, e, f, t.name)
                  (blank stop.length t.terminal stop.moves (a_blank img passes text (allowance - at.moves) at.place t.right h) (simp (is_layout, member, h)))
              kind (suc (suc x)) h = absurd (omega (arith, h, has-lt (layout img) t.terminal))

  -- Piece after piece, if the count is one of the bytes that are left.
  seen_on : (n : ℕ) (at : Spot) → length text ≤ at.place + n → Blanks img text s from at.place → Sees img text s from (look_on img text allowance s n at)
  unfolding look_on
  seen_on zero at l b = Sight.end at b (omega arith)
  seen_on (suc n) at l b = go (seen_on n) (leb (length text) at.place) refl
    where
      go : ((to : Spot) → length text ≤ to.place + n → Blanks img text s from to.place → Sees img text s from (look_on img text allowance s n to))
          → (x : Bool) → leb (length text) at.place ≡ x → Sees img text s from (look_on img text allowance s (suc n) at)
      go ih true e = simp (look_on, e) (Sight.end at b (leb-true _ _ e))
      go ih false e = with_piece (piece img text allowance s at) refl (pieced at b (leb-false _ _ e))
        where
          with_piece : (p : Looked) → piece img text allowance s at ≡ p → Pieced at p → Sees img text s from (look_on img text allowance s (suc n) at)
          with_piece p f (seen sees h) = simp (look_on, e, f, h) sees
          with_piece p f (blank size t moves x h) =
              simp (look_on, e, f, h) (ih (past size (scanned moves at)) (omega (arith, l, x.right.some)) (more size b x))

-- It keeps nothing from one look to the next, and so asks nothing of a spot.
abbrev pub Any : ℕ → Spot → Type 0
Any s at = Unit {0}

module _ (img : List ℕ) (passes : Passes img) (text : List ℕ) (allowance : ℕ) where
  pub looked : (s : ℕ) (at : Spot) → s < states img → Sees img text s at.place (look img text allowance s at)
  unfolding look
  looked s at ls = seen_on img passes text allowance s at.place ls (length text - at.place) at (omega arith) none

  pub right_look : RightLook img text Any (look img text allowance)
  right_look =
      record {
        begins = tt;
        sees = λ s at ls f. looked s at ls;
        shifts = λ s v at ls f c e. tt;
        reduces = λ s p u v at ls f c e b g. tt;
      }
