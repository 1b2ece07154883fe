-- Each step of a run keeps what is promised of the records so far, for a pack that passes and a right look. Assumes nothing.
use mathlib.Core.Path.{◌≡◌, refl, ◌∙◌}
use mathlib.Core.Bool.{true}
use mathlib.Core.List.{List, ◌∷◌}
use Prim.Native.Nat.{ℕ, zero, suc, ◌+◌, ◌*◌, ◌<◌, ◌≤◌}
use native.Mathlib.Omega.{arith}
use lib.Dec.{eqb}
use lib.ListN.{length}
use borrow.Author.Tests.{lt-ltb}
use Rattle.sets.specs.Sets.{has}
use Rattle.sets.proofs.Laws.{has-lt}
use Rattle.numbers.specs.Codes.{done, no_terminal, unexpected, no_group, stuck, allowance_used_up}
use Rattle.words.specs.declared.Action.{Action}
use Rattle.pack.specs.Image.{terminals, states, productions, valid_set, act, action_of, end_of_text}
use Rattle.pack.proofs.Valid.{valid_cell}
use Rattle.shape.proofs.Good.{good_laid}
use Rattle.shape.proofs.GoodParser.{Coded, error, shift, reduce, coded, good_shift, good_reduce, good_accept}
use Rattle.shape.proofs.GoodParser as Codes
use Rattle.conditions.specs.Conditions.{Passes}
use Rattle.look.specs.declared.Spot.{Spot}
use Rattle.look.specs.Look.{Looked}
use Rattle.look.specs.Look.{past}
use Rattle.parse.specs.Parse.{Standing, Ending, ending, Step, ends, goes, reduce_by, accept, perform, step}
use Rattle.promise.specs.Derivation.{Stands}
use Rattle.promise.specs.Cover.{RightLeaf}
use Rattle.promise.specs.Refusal.{NoTerminal, Unexpected, at_end}
use Rattle.promise.specs.Promised.{Given, accepted, no_terminal_met, not_expected, spent, Promised}
use Rattle.promise.specs.Way.{Token, word, at_end_of_text, reached, Way, on}
use Rattle.promise.specs.Way as Walk
use Rattle.promise.specs.RightLook.{Sees, RightLook}
use Rattle.promise.specs.RightLook as Sight
use Rattle.promise.proofs.Ways.{covers, covers_within, on_blanks}
use Rattle.promise.proofs.Stack.{is_state, Reduced, reduced, accepts, shifted}

-- Where the parse stands with this stack, these words and this spot.
abbrev pub standing : ℕ → List ℕ → List ℕ → Spot → Standing
standing s rest words at = record { stack = s ∷ rest; words = words; at = at }

-- A refusal of the run that is neither 9 nor 10.
pub refuses : {img text : List ℕ} {s : ℕ} {rest words : List ℕ} (code size terminal : ℕ) (at : Spot) → Stands img (s ∷ rest) words
    → Way img text (reached (s ∷ rest) words at.place) → Given code → (code ≡ done → ⊥) → (code ≡ no_group → ⊥) → (code ≡ stuck → ⊥) → (code ≡ no_terminal → NoTerminal img text s at.place)
    → (code ≡ unexpected → Unexpected img text s at.place size terminal) → Promised img text (ending code size terminal (standing s rest words at))
refuses {s = s} {rest = rest} code size terminal at trees way given a b c why7 why8 =
    record {
      codes = given;
      never_stuck = c;
      never_two = b;
      accepted = λ z. absurd (a z);
      at_the_end = λ z. absurd (a z);
      refused = λ z. record { state = s; below = rest; trees = trees; cover = covers way; way = way; why_none = why7; why_other = why8 };
    }

module _ (img : List ℕ) (passes : Passes img) (text : List ℕ) {Fits : ℕ → Spot → Type 0} {looks : ℕ → Spot → Looked} (right : RightLook img text Fits looks) where
  -- What a step comes to, from this stack and these words: an ending that keeps the promise; or, past the layout, one record more, with
  -- the stack, the way and what the look asks for after it.
  pub data Outcome (s : ℕ) (rest words : List ℕ) : Step → Type 0 where
    over : (e : Ending) → Promised img text e → Outcome s rest words (ends e)
    onward : (here : Spot) (v : ℕ) (lower more-words : List ℕ) (next : Spot) → Way img text (reached (s ∷ rest) words here.place)
        → Stands img (v ∷ lower) more-words → Way img text (reached (v ∷ lower) more-words next.place) → Fits v next
        → Outcome s rest words (goes (standing s rest words here) (standing v lower more-words next))

  module _ (s : ℕ) (rest words : List ℕ) (at : Spot) (trees : Stands img (s ∷ rest) words) (fits : Fits s at) where
    ls : s < states img
    ls = is_state img passes trees

    module _ (to : Spot) (way : Way img text (reached (s ∷ rest) words to.place)) where
      reduces : (p t : ℕ) → t < terminals img → act img s t ≡ 3 + 2 * p → Token img text s to.place t
          → (looks s at).code ≡ done → (looks s at).terminal ≡ t → (looks s at).at ≡ to
          → Outcome s rest words (reduce_by img p (standing s rest words to))
      unfolding reduce_by
      reduces p t lt e token ec et ea = go (reduced img passes s p rest words trees (record { column = t; within = lt; cell = e }) lp)
        where
          lp : p < productions img
          lp = good_reduce img passes.good s t p ls lt e

          one : (v : ℕ) → suc v ≡ 1 + v
          one v = omega arith

          go : Reduced img passes s p rest words trees (record { column = t; within = lt; cell = e }) lp
              → Outcome s rest words (reduce_by img p (standing s rest words to))
          go r =
              simp (reduce_by, lt-ltb _ _ r.enough, r.cell)
              (onward to r.v _ _ to way r.after (on way (Walk.reduces t p r.v token e r.enough (r.cell ∙ one r.v)))
              (rw ea at (right.reduces s p _ r.v at ls fits ec (rw et e) r.back (r.cell ∙ one r.v))))

      ends_right : act img s 0 ≡ 1 → length text ≤ to.place → Outcome s rest words (accept (standing s rest words to))
      unfolding accept
      ends_right e l =
          let a = accepts img passes trees e in
          let two : eqb (length (s ∷ rest)) 2 ≡ true = rw a.0 in
          let z : to.place ≡ length text = omega (arith, l, covers_within (covers way)) in
          simp (accept, two)
          (over (ending done 0 0 (standing s rest words to))
          (record {
            codes = accepted;
            never_stuck = λ y. omega arith;
            never_two = λ y. omega arith;
            accepted = λ y. record { final = s; derivation = a.1; cover = rw z at (covers way); way = rw (a.0, z) at way; accepts = e };
            at_the_end = λ y. z;
            refused = λ y. absurd (omega arith);
          }))

      -- A token is never in an error cell, and no leaf has terminal 0.
      tokened : (size t : ℕ) → RightLeaf img text t to.place size s → (looks s at).code ≡ done → (looks s at).terminal ≡ t → (looks s at).length ≡ size → (looks s at).at ≡ to
          → Outcome s rest words (perform img (action_of (act img s t)) size t (standing s rest words to))
      unfolding perform
      tokened size t leaf-right ec et es ea = go (action_of (act img s t)) (coded (act img s t))
        where
          lt : t < terminals img
          lt = (valid_cell img s t leaf-right.valid).0

          go : (a : Action) → Coded (act img s t) a → Outcome s rest words (perform img a size t (standing s rest words to))
          go a (error e) = absurd ((valid_cell img s t leaf-right.valid).1 e)
          go a (Codes.accept e) = absurd (leaf-right.not_end (good_accept img passes.good s t ls lt e))
          go a (shift v e) =
              onward to v _ _ (past size to) way (shifted img passes to.place size trees lt e) (on way (Walk.shifts t size v leaf-right e))
              (rw (es, ea) at (right.shifts s v at ls fits ec (rw et e)))
          go a (reduce p e) = reduces p t lt e (word size leaf-right) ec et ea

      ended : length text ≤ to.place → (looks s at).code ≡ done → (looks s at).terminal ≡ 0 → (looks s at).at ≡ to
          → Outcome s rest words (perform img (action_of (act img s 0)) 0 end_of_text (standing s rest words to))
      unfolding perform
      ended l ec et ea = go (action_of (act img s 0)) (coded (act img s 0))
        where
          lt : 0 < terminals img
          lt = omega (arith, good_laid img passes.good)

          go : (a : Action) → Coded (act img s 0) a → Outcome s rest words (perform img a 0 end_of_text (standing s rest words to))
          go a (error e) =
              over _ (refuses unexpected 0 0 to trees way not_expected (λ z. omega arith) (λ z. omega arith) (λ z. omega arith) (λ z. absurd (omega arith)) (λ z. at_end l e invalid))
            where
              invalid : has (valid_set img s) 0 ≡ 0
              invalid = without (has (valid_set img s) 0) refl
                where
                  without : (b : ℕ) → has (valid_set img s) 0 ≡ b → has (valid_set img s) 0 ≡ 0
                  without zero f = f
                  without (suc zero) f = absurd ((valid_cell img s 0 f).1 e)
                  without (suc (suc b)) f = absurd (omega (arith, f, has-lt (valid_set img s) 0))
          go a (Codes.accept e) = ends_right e l
          go a (shift v e) = absurd (omega (arith, (good_shift img passes.good s 0 v ls lt e).0))
          go a (reduce p e) = reduces p 0 lt e (at_end_of_text l) ec et ea

    pub stepped : Way img text (reached (s ∷ rest) words at.place) → Outcome s rest words (step img looks (standing s rest words at))
    unfolding step
    stepped way = go (looks s at) refl (right.sees s at ls fits)
      where
        go : (l : Looked) → looks s at ≡ l → Sees img text s at.place l → Outcome s rest words (step img looks (standing s rest words at))
        go l e (Sight.token size terminal to b r) = simp (step, e) (tokened to (on_blanks way b) size terminal r (rw e refl) (rw e refl) (rw e refl) (rw e refl))
        go l e (Sight.end to b past_end) = simp (step, e) (ended to (on_blanks way b) past_end (rw e refl) (rw e refl) (rw e refl))
        go l e (Sight.none to b why) =
            simp (step, e)
            (over _ (refuses no_terminal 0 0 to trees (on_blanks way b) no_terminal_met (λ z. omega arith) (λ z. omega arith) (λ z. omega arith) (λ z. why) (λ z. absurd (omega arith))))
        go l e (Sight.other size terminal to b why) =
            simp (step, e)
            (over _ (refuses unexpected size terminal to trees (on_blanks way b) not_expected (λ z. omega arith) (λ z. omega arith) (λ z. omega arith) (λ z. absurd (omega arith)) (λ z. why)))
        go l e (Sight.spent to b) =
            simp (step, e)
            (over _ (refuses allowance_used_up 0 0 to trees (on_blanks way b) spent (λ z. omega arith) (λ z. omega arith) (λ z. omega arith) (λ z. absurd (omega arith)) (λ z. absurd (omega arith))))
