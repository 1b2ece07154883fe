-- What is found lies within the text, and the moves within the allowance: for callers that do not look into `look`. Assumes nothing.
use mathlib.Core.Path.{◌≡◌, refl, sym}
use mathlib.Core.Bool.{Bool, true, false}
use mathlib.Core.List.{List}
use Prim.Native.Nat.{ℕ, zero, suc, ◌+◌, ◌-◌, ◌≤◌}
use native.Mathlib.Omega.{arith}
use lib.Dec.{eqb, leb}
use lib.ListN.{length, drop, length-drop}
use borrow.Author.Tests.{eqb-true, eqb-false}
use Rattle.pack.specs.Image.{all_but_end_and_layout}
use Rattle.scan.specs.Token.{terminal_of}
use Rattle.scan.proofs.Theory.{scan_stops}
use Rattle.look.specs.declared.Spot.{Spot}
use Rattle.look.specs.Look.{Sought, Looked, refused, seek, rescan, choose, sought_set, piece, is_layout, look_on, look}
use Rattle.look.specs.Inner.{Within}
use Rattle.look.proofs.Laws.{choose_none, choose_some, rescan_spent, rescan_none, rescan_some, piece_spent, piece_none, piece_some}

module _ (img text : List ℕ) (allowance : ℕ) where
  -- A scan's match, and a token, end within the text.
  pub record Scanned (f : Sought) : Type 0 where
    pub place : f.at.place + f.length ≤ length text
    pub moves : f.at.moves ≤ allowance

  pub record Bounds (l : Looked) : Type 0 where
    pub place : l.at.place + l.length ≤ length text
    pub moves : l.at.moves ≤ allowance

  seek_in : (v : ℕ) (at : Spot) → Within text allowance at → Scanned (seek img text allowance v at)
  unfolding seek
  seek_in v at w =
      let q = scan_stops img v (allowance - at.moves) (drop at.place text) in
      record { place = omega (arith, w.place, q.within, length-drop at.place text); moves = omega (arith, w.moves, q.moves_allowed) }

  -- Where a scan stopped, and past its match.
  stands : (f : Sought) → Scanned f → Within text allowance f.at
  stands f s = record { place = omega (arith, s.place); moves = s.moves }

  nothing_found : {code : ℕ} (at : Spot) → Within text allowance at → Bounds (refused code 0 0 at)
  nothing_found at w = record { place = omega (arith, w.place); moves = w.moves }

  found_there : {code t : ℕ} (f : Sought) → Scanned f → Bounds (refused code f.length t f.at)
  found_there f s = record { place = s.place; moves = s.moves }

  rescan_in : (at : Spot) → Within text allowance at → Bounds (rescan img text allowance at)
  rescan_in at w = go (seek_in (all_but_end_and_layout img) at w) (seek img text allowance (all_but_end_and_layout img) at).spent refl (eqb (seek img text allowance (all_but_end_and_layout img) at).set 0) refl
    where
      go : Scanned (seek img text allowance (all_but_end_and_layout img) at) → (x : Bool) → (seek img text allowance (all_but_end_and_layout img) at).spent ≡ x
          → (y : Bool) → eqb (seek img text allowance (all_but_end_and_layout img) at).set 0 ≡ y → Bounds (rescan img text allowance at)
      go s true e y f = rw (← rescan_spent img text allowance at refl refl e) (nothing_found _ (stands _ s))
      go s false e true f = rw (← rescan_none img text allowance at refl refl e (eqb-true _ _ f)) (nothing_found _ (stands _ s))
      go s false e false f = rw (← rescan_some img text allowance at refl refl e (eqb-false _ _ f) refl) (found_there _ s)

  choose_in : (f : Sought) → Scanned f → Bounds (choose img f.set f.length f.at)
  choose_in f s = go (terminal_of img f.set) refl
    where
      go : (t : ℕ) → terminal_of img f.set ≡ t → Bounds (choose img f.set f.length f.at)
      go zero e = rw (← choose_none img f.set f.length f.at (sym e)) (found_there f s)
      go (suc t) e = rw (← choose_some img f.set f.length t f.at (sym e)) (found_there f s)

  piece_in : (s : ℕ) (at : Spot) → Within text allowance at → Bounds (piece img text allowance s at)
  piece_in s at w = go (seek_in (sought_set img s) at w) (seek img text allowance (sought_set img s) at).spent refl (eqb (seek img text allowance (sought_set img s) at).set 0) refl
    where
      go : Scanned (seek img text allowance (sought_set img s) at) → (x : Bool) → (seek img text allowance (sought_set img s) at).spent ≡ x
          → (y : Bool) → eqb (seek img text allowance (sought_set img s) at).set 0 ≡ y → Bounds (piece img text allowance s at)
      go q true e y f = rw (← piece_spent img text allowance s at refl refl e) (nothing_found _ (stands _ q))
      go q false e true f = rw (← piece_none img text allowance s at refl refl e (eqb-true _ _ f)) (rescan_in _ (stands _ q))
      go q false e false f = rw (← piece_some img text allowance s at refl refl e (eqb-false _ _ f)) (choose_in _ q)

  on_in : (s n : ℕ) (at : Spot) → Within text allowance at → Bounds (look_on img text allowance s n at)
  unfolding look_on
  on_in s zero at w = nothing_found at w
  on_in s (suc n) at w = go (on_in s n) (piece_in s at w) (leb (length text) at.place) refl (is_layout img (piece img text allowance s at)) refl
    where
      go : ((p : Spot) → Within text allowance p → Bounds (look_on img text allowance s n p)) → Bounds (piece img text allowance s at)
          → (x : Bool) → leb (length text) at.place ≡ x → (y : Bool) → is_layout img (piece img text allowance s at) ≡ y → Bounds (look_on img text allowance s (suc n) at)
      go ih q true e y i = simp (look_on, e) (nothing_found at w)
      go ih q false e false i = simp (look_on, e, i) q
      go ih q false e true i = simp (look_on, e, i) (ih _ (record { place = q.place; moves = q.moves }))

  pub look_in : (s : ℕ) (at : Spot) → Within text allowance at → Bounds (look img text allowance s at)
  unfolding look
  look_in s at w = on_in s (length text - at.place) at w
