-- What every parse keeps, for callers that do not look into its run: the place lies within the text, the moves within the allowance, the
-- records within the room, and what stands in the tree is those records. Assumes nothing.
use mathlib.Core.Path.{◌≡◌, refl, ◌∙◌}
use mathlib.Core.Bool.{Bool, true, false}
use mathlib.Core.List.{List, ◌++◌}
use Prim.Native.Nat.{ℕ, zero, suc, ◌+◌, ◌*◌, ◌/◌, ◌<◌, ◌≤◌}
use native.Mathlib.Omega.{arith}
use lib.Dec.{eqb, leb, ltb}
use lib.ListN.{length, drop, length-append}
use borrow.Author.Tests.{ltb-true, ltb-false}
use Rattle.numbers.specs.Codes.{done, most_states, query_too_long, wrong_shape, longest_text}
use Rattle.words.specs.declared.Action.{Action}
use Rattle.words.specs.declared.Action.TheVariants.{Error, Accept, Shift, Reduce}
use Rattle.pack.specs.Image.{act, action_of, goto, lhs, len}
use Rattle.numbers.specs.Verdicts.{Good, Wrong}
use Rattle.shape.specs.Shape.{shape}
use Rattle.look.specs.declared.Spot.{Spot}
use Rattle.look.specs.Look.{Looked}
use Rattle.look.specs.Look.{look}
use Rattle.look.specs.Inner.{Within}
use Rattle.look.proofs.Bounds.{Bounds, look_in}
use Rattle.records.specs.Parse.{record_words, Standing, Ending, ending, Step, ends, goes, wrote, moved, top, reduce_by, accept, perform, step, run, start, room_of, before, parse, tree_after}

module _ (text : List ℕ) (allowance : ℕ) where
  pub record Bounded (room : ℕ) (e : Ending) : Type 0 where
    pub place : e.parsed.place ≤ length text
    pub moves : e.parsed.moves ≤ allowance
    pub records : e.parsed.records ≤ room
    pub words : length e.words ≡ e.parsed.records * record_words

  -- What an action comes to, from a spot within the text: an end where the parse stands, or one record more.
  data Outcome (here : Standing) : Step → Type 0 where
    ended : (code size t : ℕ) (at : Spot) → Within text allowance at → Outcome here (ends (ending code size t (moved at here)))
    went : (at : Spot) → Within text allowance at → (words stack : List ℕ) (next : Spot) → length words ≡ record_words → Within text allowance next
        → Outcome here (goes (moved at here) (wrote words stack next (moved at here)))

  module _ (img : List ℕ) where
    -- The action, of a token that ends within the text.
    performed : (action : Action) (size t : ℕ) (here : Standing) (at : Spot) → at.place + size ≤ length text → at.moves ≤ allowance
        → Outcome here (perform img action size t (moved at here))
    unfolding perform accept reduce_by
    performed Error size t here at p m = ended _ size t at (record { place = omega arith; moves = m })
    performed Accept size t here at p m = go (eqb (length here.stack) 2) refl
      where
        go : (x : Bool) → eqb (length here.stack) 2 ≡ x → Outcome here (accept (moved at here))
        go true e = simp (accept, e) (ended _ 0 0 at (record { place = omega arith; moves = m }))
        go false e = simp (accept, e) (ended _ 0 0 at (record { place = omega arith; moves = m }))
    performed (Shift s) size t here at p m =
        went at (record { place = omega arith; moves = m }) _ _ _ refl (record { place = p; moves = m })
    performed (Reduce k) size t here at p m = go (ltb (len img k) (length here.stack)) refl (goto img (top (drop (len img k) here.stack)) (lhs img k)) refl
      where
        go : (x : Bool) → ltb (len img k) (length here.stack) ≡ x → (y : ℕ) → goto img (top (drop (len img k) here.stack)) (lhs img k) ≡ y
            → Outcome here (reduce_by img k (moved at here))
        go false e y f = simp (reduce_by, e) (ended _ 0 0 at (record { place = omega arith; moves = m }))
        go true e zero f = simp (reduce_by, e, f) (ended _ 0 0 at (record { place = omega arith; moves = m }))
        go true e (suc v) f =
            let l : at.place ≤ length text = omega arith in
            simp (reduce_by, e, f) (went at (record { place = l; moves = m }) _ _ _ refl (record { place = l; moves = m }))

    module _ (looks : ℕ → Spot → Looked) (right : (s : ℕ) (at : Spot) → Within text allowance at → Bounds img text allowance (looks s at)) where
      stepped : (here : Standing) → Within text allowance here.at → Outcome here (step img looks here)
      unfolding step
      stepped here w = go (right (top here.stack) here.at w) (eqb (looks (top here.stack) here.at).code done) refl
        where
          l : Looked
          l = looks (top here.stack) here.at

          go : Bounds img text allowance l → (x : Bool) → eqb l.code done ≡ x → Outcome here (step img looks here)
          go b true e = simp (step, e) (performed (action_of (act img (top here.stack) l.terminal)) l.length l.terminal here l.at b.place b.moves)
          go b false e = simp (step, e) (ended l.code l.length l.terminal l.at (record { place = omega (arith, b.place); moves = b.moves }))

      -- An end with k records, of so much room.
      at_end : (room k code size t : ℕ) (here : Standing) (at : Spot) → Within text allowance at → length here.words ≡ k * record_words → k ≤ room
          → Bounded room (ending code size t (moved at here))
      at_end room k code size t here at w e l =
          let z : length here.words / record_words ≡ k = omega arith in
          record { place = w.place; moves = w.moves; records = omega (arith, z); words = omega (arith, z, e) }

      runs : (left k : ℕ) (here : Standing) → Within text allowance here.at → length here.words ≡ k * record_words → Bounded (k + left) (run img looks left here)
      unfolding run
      runs zero k here w e = go (step img looks here) refl (stepped here w)
        where
          go : (s : Step) → step img looks here ≡ s → Outcome here s → Bounded (k + 0) (run img looks zero here)
          go s f (ended code size t at v) = simp (run, f) (at_end (k + 0) k code size t here at v e (omega arith))
          go s f (went at v words stack next l n) = simp (run, f) (at_end (k + 0) k _ 0 0 here at v e (omega arith))
      runs (suc left) k here w e = go (runs left) (step img looks here) refl (stepped here w)
        where
          go : ((j : ℕ) (next : Standing) → Within text allowance next.at → length next.words ≡ j * record_words → Bounded (j + left) (run img looks left next))
              → (s : Step) → step img looks here ≡ s → Outcome here s → Bounded (k + suc left) (run img looks (suc left) here)
          go ih s f (ended code size t at v) = simp (run, f) (at_end (k + suc left) k code size t here at v e (omega arith))
          go ih s f (went at v words stack next l n) = high (leb (length stack) most_states) refl
            where
              grown : length (here.words ++ words) ≡ (k + 1) * record_words
              grown = length-append here.words words ∙ omega (arith, e, l)

              high : (x : Bool) → leb (length stack) most_states ≡ x → Bounded (k + suc left) (run img looks (suc left) here)
              high false g = simp (run, f, g) (at_end (k + suc left) k _ 0 0 here at v e (omega arith))
              high true g =
                  let z : k + suc left ≡ k + 1 + left = omega arith in
                  rw z (simp (run, f, g) (ih (k + 1) (wrote words stack next (moved at here)) n grown))

      pub run_bounded : (room : ℕ) → Bounded room (run img looks room start)
      run_bounded room = let z : 0 + room ≡ room = omega arith in rw z at (runs room 0 start (record { place = omega arith; moves = omega arith }) refl)

-- A parse of a text that is not too long, with a pack of good shape: for these alone the place is one of the text.
pub parse_bounded : (img text tree : List ℕ) (allowance : ℕ) → length text ≤ longest_text → shape img ≡ Good → Bounded text allowance (room_of tree) (parse img text tree allowance)
unfolding parse
parse_bounded img text tree allowance h good = go (ltb longest_text (length text)) refl
  where
    go : (x : Bool) → ltb longest_text (length text) ≡ x → Bounded text allowance (room_of tree) (parse img text tree allowance)
    go true e = absurd (omega (arith, ltb-true longest_text (length text) e))
    go false e = simp (parse, e, good) (run_bounded text allowance img (look img text allowance) (look_in img text allowance) (room_of tree))

-- Otherwise nothing is written: the tree is as it was.
pub refused_long : (img text tree : List ℕ) (allowance : ℕ) → longest_text < length text → parse img text tree allowance ≡ before query_too_long 0
unfolding parse
refused_long img text tree allowance h = go (ltb longest_text (length text)) refl
  where
    go : (x : Bool) → ltb longest_text (length text) ≡ x → parse img text tree allowance ≡ before query_too_long 0
    go true e = simp (parse, e)
    go false e = absurd (omega (arith, ltb-false longest_text (length text) e))

pub refused_shape : (img text tree : List ℕ) (allowance place : ℕ) → length text ≤ longest_text → shape img ≡ Wrong place → parse img text tree allowance ≡ before wrong_shape place
unfolding parse
refused_shape img text tree allowance place h wrong = go (ltb longest_text (length text)) refl
  where
    go : (x : Bool) → ltb longest_text (length text) ≡ x → parse img text tree allowance ≡ before wrong_shape place
    go true e = absurd (omega (arith, ltb-true longest_text (length text) e))
    go false e = simp (parse, e, wrong)

pub untouched : (tree : List ℕ) (code place : ℕ) → tree_after tree (before code place) ≡ tree
untouched tree code place = refl
