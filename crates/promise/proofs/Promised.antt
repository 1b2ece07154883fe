-- The third demand of the letter, for every pack that passes, every text, tree and allowance. Assumes nothing.
use mathlib.Core.Path.{◌≡◌, refl}
use mathlib.Core.Bool.{Bool, true, false}
use mathlib.Core.List.{List, [], ◌∷◌}
use Prim.Native.Nat.{ℕ, zero, suc, ◌+◌, ◌≤◌}
use native.Mathlib.Omega.{arith}
use lib.Dec.{leb, ltb}
use lib.ListN.{length}
use Rattle.numbers.specs.Codes.{tree_full, stack_full, longest_text, most_states}
use Rattle.conditions.specs.Conditions.{Passes}
use Rattle.conditions.specs.Check.{passed, check}
use Rattle.conditions.proofs.Answers.{checked_passes}
use Rattle.look.specs.declared.Spot.{Spot}
use Rattle.look.specs.Look.{Looked}
use Rattle.parse.specs.Parse.{Step, step, run, room_of, parse}
use Rattle.parse.specs.Parse as Parsing
use Rattle.promise.specs.Derivation.{Stands, bottom}
use Rattle.promise.specs.Promised.{Given, too_long, tree_is_full, stack_is_full, Promised}
use Rattle.promise.specs.Way.{reached, Way, begin}
use Rattle.promise.specs.RightLook.{RightLook}
use Rattle.promise.proofs.Looks.{right_look}
use Rattle.promise.proofs.Steps.{standing, refuses, Outcome, over, onward, stepped}

module _ (img : List ℕ) (passes : Passes img) (text : List ℕ) {Fits : ℕ → Spot → Type 0} {looks : ℕ → Spot → Looked} (right : RightLook img text Fits looks) where
  -- Room or stack used up.
  full : (code : ℕ) {s : ℕ} {rest words : List ℕ} (here : Spot) → stack_full ≤ code + 1 → Given code → Stands img (s ∷ rest) words
      → Way img text (reached (s ∷ rest) words here.place) → Promised img text (Parsing.ending code 0 0 (standing s rest words here))
  full code here l given trees way =
      refuses code 0 0 here trees way given (λ z. omega arith) (λ z. omega arith) (λ z. omega arith) (λ z. absurd (omega arith)) (λ z. absurd (omega arith))

  -- A run from any standing that keeps the promise so far.
  runs : (left s : ℕ) (rest words : List ℕ) (at : Spot) → Stands img (s ∷ rest) words → Way img text (reached (s ∷ rest) words at.place) → Fits s at
      → Promised img text (run img looks left (standing s rest words at))
  unfolding run
  runs zero s rest words at trees way fits = go (step img looks (standing s rest words at)) refl (stepped img passes text right s rest words at trees fits way)
    where
      go : (k : Step) → step img looks (standing s rest words at) ≡ k → Outcome img passes text right s rest words k
          → Promised img text (run img looks 0 (standing s rest words at))
      go k e (over f p) = simp (run, e) p
      go k e (onward here v lower ws next c t d f) = simp (run, e) (full tree_full here (omega arith) tree_is_full trees c)
  runs (suc left) s rest words at trees way fits =
      go (runs left) (step img looks (standing s rest words at)) refl (stepped img passes text right s rest words at trees fits way)
    where
      go : ((v : ℕ) (lower ws : List ℕ) (next : Spot) → Stands img (v ∷ lower) ws → Way img text (reached (v ∷ lower) ws next.place) → Fits v next
          → Promised img text (run img looks left (standing v lower ws next)))
          → (k : Step) → step img looks (standing s rest words at) ≡ k → Outcome img passes text right s rest words k
          → Promised img text (run img looks (suc left) (standing s rest words at))
      go ih k e (over f p) = simp (run, e) p
      go ih k e (onward here v lower ws next c t d f) = fits_in (leb (length (v ∷ lower)) most_states) refl
        where
          fits_in : (x : Bool) → leb (length (v ∷ lower)) most_states ≡ x → Promised img text (run img looks (suc left) (standing s rest words at))
          fits_in false l = simp (run, e, l) (full stack_full here (omega arith) stack_is_full trees c)
          fits_in true l = simp (run, e, l) (ih v lower ws next t d f)

  -- For every right look, and every room.
  pub promised_run : (room : ℕ) → Promised img text (run img looks room Parsing.start)
  promised_run room = runs room 0 [] [] (Parsing.start).at bottom begin right.begins

-- The third demand.
pub promised : (img : List ℕ) → Passes img → (text tree : List ℕ) (allowance : ℕ) → Promised img text (parse img text tree allowance)
unfolding parse
promised img passes text tree allowance = go (ltb longest_text (length text)) refl
  where
    go : (x : Bool) → ltb longest_text (length text) ≡ x → Promised img text (parse img text tree allowance)
    go true e =
        simp (parse, e)
        (record { codes = too_long; never_stuck = λ z. omega arith; never_two = λ z. omega arith; accepted = λ z. absurd (omega arith); at_the_end = λ z. absurd (omega arith); refused = λ z. absurd (omega arith) })
    go false e = simp (parse, e, passes.good) (promised_run img passes text (right_look img passes text allowance) (room_of tree))

-- .. in terms of the check.
pub promised_checked : (img : List ℕ) → check img ≡ passed → (text tree : List ℕ) (allowance : ℕ) → Promised img text (parse img text tree allowance)
promised_checked img e = promised img (checked_passes img e)
