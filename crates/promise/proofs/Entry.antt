-- The third demand of the functions themselves: of what `check` gives, and of what `parse` returns and leaves in the lent tree, by their
-- contracts alone. Assumes nothing.
use mathlib.Core.Path.{◌≡◌, refl, sym, ap, ◌∙◌}
use mathlib.Core.Bool.{Bool, true, false}
use mathlib.Core.List.{List}
use Prim.Native.Nat.{ℕ, ◌*◌, ◌≤◌}
use native.Mathlib.Omega.{arith}
use lib.Dec.{ltb}
use lib.ListN.{length, take, drop}
use lib.Seq.{take_at}
use borrow.Author.Tests.{ltb-true, ltb-false}
use Rattle.numbers.specs.Codes.{done, no_terminal, no_group, stuck, longest_text, query_too_long}
use Rattle.conditions.specs.declared.Checked.{Checked}
use Rattle.conditions.specs.Check.{passed, check}
use Rattle.conditions.proofs.Answers.{checked_passes}
use Rattle.records.specs.declared.Parsed.{Parsed}
use Rattle.parse.specs.Parse.{Ending, record_words, parse, tree_after}
use Rattle.parse.proofs.Bounded.{parse_bounded, refused_long}
use Rattle.promise.specs.Promised.{Accepted, Refused, Given, Halts}
use Rattle.promise.proofs.Promised.{promised_checked}

-- A pack that was checked, and a parse by it: its numbers, and the lent tree before and after.
module _ (img text tree tree' : List ℕ) (allowance : ℕ) (c : Checked) (r : Parsed) (checks : c ≡ check img) (zeros : c ≡ passed)
    (gives : r ≡ (parse img text tree allowance).parsed) (leaves : tree' ≡ tree_after tree (parse img text tree allowance)) where
  passing : check img ≡ passed
  passing = sym checks ∙ zeros

  code_is : r.code ≡ (parse img text tree allowance).parsed.code
  code_is = ap (λ (p : Parsed). p.code) gives

  pub codes : Given r.code
  codes = rw code_is (promised_checked img passing text tree allowance).codes

  pub never_stuck : r.code ≡ stuck → ⊥
  never_stuck e = (promised_checked img passing text tree allowance).never_stuck (sym code_is ∙ e)

  pub never_two : r.code ≡ no_group → ⊥
  never_two e = (promised_checked img passing text tree allowance).never_two (sym code_is ∙ e)

  -- What was written is so many records; with them the numbers and the front of the tree are the whole ending.
  written : (r.code ≡ query_too_long → ⊥) → length (parse img text tree allowance).words ≡ r.records * record_words
  written n = go (ltb longest_text (length text)) refl
    where
      go : (x : Bool) → ltb longest_text (length text) ≡ x → length (parse img text tree allowance).words ≡ r.records * record_words
      go true l = absurd (n (code_is ∙ ap (λ (w : Ending). w.parsed.code) (refused_long img text tree allowance (ltb-true longest_text (length text) l))))
      go false l =
          (parse_bounded img text tree allowance (ltb-false longest_text (length text) l) (checked_passes img passing).good).words
          ∙ ap (λ (p : Parsed). p.records * record_words) (sym gives)

  front_is : (r.code ≡ query_too_long → ⊥) → take (r.records * record_words) tree' ≡ (parse img text tree allowance).words
  front_is n =
      ap (take (r.records * record_words)) leaves
      ∙ take_at (parse img text tree allowance).words (drop (length (parse img text tree allowance).words) tree) (r.records * record_words) (written n)

  -- The words at the front of the tree, as many records as were told, are the derivation.
  pub accepted : r.code ≡ done → Accepted img text (take (r.records * record_words) tree')
  accepted e = rw (front_is (λ z. omega arith)) ((promised_checked img passing text tree allowance).accepted (sym code_is ∙ e))

  -- And where the parse was refused, they are the trees so far.
  pub refused : no_terminal ≤ r.code → Refused img text (record { parsed = r; words = take (r.records * record_words) tree' })
  refused l = rw (front_is (λ z. omega arith), gives) ((promised_checked img passing text tree allowance).refused (rw code_is at l))

  -- A parse that gets no further than a place.
  pub halted : {words : List ℕ} {place : ℕ} → Halts words place (parse img text tree allowance)
      → Halts words place (record { parsed = r; words = take (r.records * record_words) tree' })
  halted h =
      record {
        not_accepted = λ z. h.not_accepted (sym code_is ∙ z);
        front = λ l. rw (front_is (λ z. omega arith)) (h.front (rw code_is at l));
        no_further = λ l. rw gives (h.no_further (rw code_is at l));
        there_none = λ z. rw (front_is (λ y. omega arith), gives) (h.there_none (sym code_is ∙ z));
        there_other = λ z. rw (front_is (λ y. omega arith), gives) (h.there_other (sym code_is ∙ z));
      }
