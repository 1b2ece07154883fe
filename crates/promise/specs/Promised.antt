-- Manual, section 7: the third demand of the letter as one statement about how a parse ends, and what holds where it does not accept.
use Rattle.std.specs.Prelude.{◌≡◌, List, [], ◌∷◌, ◌++◌, ℕ, ◌≤◌, length}
use Rattle.numbers.specs.Codes.{done, query_too_long, no_terminal, unexpected, no_group, stuck, tree_full, stack_full, allowance_used_up}
use Rattle.pack.specs.Image.{act, start_symbol, end_of_text}
use Rattle.parse.specs.Parse.{Ending}
use Rattle.promise.specs.Derivation.{Trees, Stands}
use Rattle.promise.specs.Cover.{Covers}
use Rattle.promise.specs.Refusal.{NoTerminal, Unexpected}
use Rattle.promise.specs.Way.{reached, Way}

-- "its records are one derivation from the start symbol by the pack's productions; leaves and skipped layout cover the text once, in
-- order; and each leaf ..": one tree, which begins in parse state 0, and a cover of the whole text by leaves that are right. Both are
-- made on the one way of the tables over the text, to a state on the lowest one that accepts at the end of the text.
pub record Accepted (img text words : List ℕ) : Type 0 where
  pub final : ℕ
  pub derivation : Trees img 0 (start_symbol ∷ []) words final
  pub cover : Covers img text words (length text)
  pub way : Way img text (reached (final ∷ 0 ∷ []) words (length text))
  pub accepts : act img final end_of_text ≡ 1

-- Where the parse was refused: the records so far are trees that stand side by side on the stack, and they cover the text up to the
-- place that is given, with leaves that are right; both are made on the way of the tables. With 7 and 8 also what does not match there
-- for the state on top.
pub record Refused (img text : List ℕ) (e : Ending) : Type 0 where
  pub state : ℕ
  pub below : List ℕ
  pub trees : Stands img (state ∷ below) e.words
  pub cover : Covers img text e.words e.parsed.place
  pub way : Way img text (reached (state ∷ below) e.words e.parsed.place)
  pub why_none : e.parsed.code ≡ no_terminal → NoTerminal img text state e.parsed.place
  pub why_other : e.parsed.code ≡ unexpected → Unexpected img text state e.parsed.place e.parsed.length e.parsed.terminal

-- The codes of a parse by a pack that passes: 0, 6, 7, 8, 11, 12 and 13.
pub data Given : ℕ → Type 0 where
  accepted : Given done
  too_long : Given query_too_long
  no_terminal_met : Given no_terminal
  not_expected : Given unexpected
  tree_is_full : Given tree_full
  stack_is_full : Given stack_full
  spent : Given allowance_used_up

-- What is promised of the ending of a parse by a pack that passes.
pub record Promised (img text : List ℕ) (e : Ending) : Type 0 where
  pub codes : Given e.parsed.code
  -- "the parse is never stuck (code 10)"
  pub never_stuck : e.parsed.code ≡ stuck → ⊥
  -- "and never left with two terminals (code 9)"
  pub never_two : e.parsed.code ≡ no_group → ⊥
  -- "If it accepts, its records are .."
  pub accepted : e.parsed.code ≡ done → Accepted img text e.words
  pub at_the_end : e.parsed.code ≡ done → e.parsed.place ≡ length text
  -- The codes of a run that was refused are those from 7 on.
  pub refused : no_terminal ≤ e.parsed.code → Refused img text e

-- A parse that gets no further than a place where these words are written: it does not accept; what it has written are the first of these
-- words; and where no token is found, it is at that place, with all of them.
pub record Halts (words : List ℕ) (place : ℕ) (e : Ending) : Type 0 where
  pub not_accepted : e.parsed.code ≡ done → ⊥
  pub front : no_terminal ≤ e.parsed.code → (more : List ℕ) × (words ≡ e.words ++ more)
  pub no_further : no_terminal ≤ e.parsed.code → e.parsed.place ≤ place
  pub there_none : e.parsed.code ≡ no_terminal → (e.parsed.place ≡ place) × (e.words ≡ words)
  pub there_other : e.parsed.code ≡ unexpected → (e.parsed.place ≡ place) × (e.words ≡ words)

-- A parse that came to an end of its own: it was not cut short by the limits of text, tree, stack or allowance.
pub data Own (code : ℕ) : Type 0 where
  accepting : code ≡ done → Own code
  none_found : code ≡ no_terminal → Own code
  other_found : code ≡ unexpected → Own code

-- Two endings with the same code, place and records, and with 8 the same unexpected terminal.
pub record Alike (e f : Ending) : Type 0 where
  pub code : e.parsed.code ≡ f.parsed.code
  pub place : e.parsed.place ≡ f.parsed.place
  pub words : e.words ≡ f.words
  pub token : e.parsed.code ≡ unexpected → (e.parsed.length ≡ f.parsed.length) × (e.parsed.terminal ≡ f.parsed.terminal)
