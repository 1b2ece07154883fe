-- Manual, sections 3.2 to 3.4: the parse. The stack is a list of parse states, the top first.
use Rattle.std.specs.Prelude.{true, false, List, [], ◌∷◌, ◌++◌, ℕ, zero, suc, ◌/◌, min, eqb, leb, ltb, length, get_or, drop}
use Rattle.numbers.specs.Codes.{done, wrong_shape, query_too_long, unexpected, stuck, tree_full, stack_full, longest_text, most_records, most_states}
use Rattle.numbers.specs.Front.{front}
use Rattle.words.specs.declared.Action.{Action}
use Rattle.words.specs.declared.Action.TheVariants.{Error, Accept, Shift, Reduce}
use Rattle.pack.specs.Image.{act, action_of, goto, lhs, len, of_nonterminal}
use Rattle.numbers.specs.Verdicts.{Good, Wrong}
use Rattle.shape.specs.Shape.{shape}
use Rattle.look.specs.declared.Spot.{Spot}
use Rattle.look.specs.Look.{Looked}
use Rattle.look.specs.Look.{past, look}
use Rattle.records.specs.declared.Parsed.{Parsed}

-- A record is four words: of a leaf the terminal, its start, its length and the state that shifted it; of a node 64 more than lhs, the
-- production, its length and the state that was uncovered.
abbrev pub record_words : ℕ
record_words = 4

abbrev pub leaf_record : ℕ → ℕ → ℕ → ℕ → List ℕ
leaf_record terminal start size state = terminal ∷ start ∷ size ∷ state ∷ []

abbrev pub node_record : List ℕ → ℕ → ℕ → List ℕ
node_record img p state = of_nonterminal (lhs img p) ∷ p ∷ len img p ∷ state ∷ []

-- Where the parse stands: the stack, the words of the records written, and the spot in the text.
pub record Standing : Type 0 where
  pub stack : List ℕ
  pub words : List ℕ
  pub at : Spot

-- The state on top.
abbrev pub top : List ℕ → ℕ
top stack = get_or stack 0 0

-- The stack begins with state 0.
abbrev pub start : Standing
start = record { stack = 0 ∷ []; words = []; at = record { place = 0; moves = 0 } }

-- How a parse ends: the numbers given back, and the words of its records.
pub record Ending : Type 0 where
  pub parsed : Parsed
  pub words : List ℕ

-- It ends where it stands, with the records and the moves made so far.
abbrev pub ending : ℕ → ℕ → ℕ → Standing → Ending
ending code size terminal here =
    record {
      parsed = record { code = code; place = here.at.place; length = size; terminal = terminal; records = length here.words / record_words; moves = here.at.moves };
      words = here.words;
    }

-- What an action comes to: the end, or where the parse stood and where it stands after it.
pub data Step : Type 0 where
  ends : Ending → Step
  goes : (here next : Standing) → Step

-- One record more, this stack and this spot.
abbrev pub wrote : List ℕ → List ℕ → Spot → Standing → Standing
wrote added stack at here = record { stack = stack; words = here.words ++ added; at = at }

-- Shift: a leaf is written and the state pushed.
abbrev pub shift_to : ℕ → ℕ → ℕ → Standing → Step
shift_to s size terminal here = goes here (wrote (leaf_record terminal here.at.place size (top here.stack)) (s ∷ here.stack) (past size here.at) here)

-- Reduce by p: as many states as its length are dropped, a node is written, and the goto of the uncovered state on lhs is pushed. The
-- parse is stuck where there are too few states, or no goto.
unfoldable pub reduce_by : List ℕ → ℕ → Standing → Step
reduce_by img p here =
    let rest = drop (len img p) here.stack in
    elim (ltb (len img p) (length here.stack)) [
      | false ↦ ends (ending stuck 0 0 here)
      | true ↦ elim (goto img (top rest) (lhs img p)) [
        | zero ↦ ends (ending stuck 0 0 here)
        | suc s ↦ goes here (wrote (node_record img p (top rest)) (s ∷ rest) here.at here)
      ]
    ]

-- Accept: the stack must hold exactly two states, or the parse is stuck. Accept stands in column 0 alone, so the place is the text's
-- length.
unfoldable pub accept : Standing → Step
accept here = elim (eqb (length here.stack) 2) [ true ↦ ends (ending done 0 0 here) | false ↦ ends (ending stuck 0 0 here) ]

-- The action of the state on top for the terminal. A token is valid, so the error cell is met only at the end of the text, where it
-- is an unexpected terminal 0 of length 0.
unfoldable pub perform : List ℕ → Action → ℕ → ℕ → Standing → Step
perform img Error size terminal here = ends (ending unexpected size terminal here)
perform img Accept size terminal here = accept here
perform img (Shift s) size terminal here = shift_to s size terminal here
perform img (Reduce p) size terminal here = reduce_by img p here

-- The same stack and words at another spot.
abbrev pub moved : Spot → Standing → Standing
moved at here = record { stack = here.stack; words = here.words; at = at }

-- One step: look, from the state on top and the spot, and do what the cell says.
unfoldable pub step : List ℕ → (ℕ → Spot → Looked) → Standing → Step
step img looks here =
    let l = looks (top here.stack) here.at in
    elim (eqb l.code done) [
      | false ↦ ends (ending l.code l.length l.terminal (moved l.at here))
      | true ↦ perform img (action_of (act img (top here.stack) l.terminal)) l.length l.terminal (moved l.at here)
    ]

-- Step by step. The count is the room that is left, in records: each step that does not end the parse writes one.
-- In one action 10 comes first, then 11, then 12, and such an action writes nothing. Their place is where the parse stands, past skipped
-- layout and before the token.
unfoldable pub run : List ℕ → (ℕ → Spot → Looked) → ℕ → Standing → Ending
run img looks zero here = elim (step img looks here) [ ends e ↦ e | goes here next ↦ ending tree_full 0 0 here ]
run img looks (suc left) here =
    elim (step img looks here) [
      | ends e ↦ e
      | goes here next ↦ elim (leb (length next.stack) most_states) [
        | false ↦ ending stack_full 0 0 here
        | true ↦ run img looks left next
      ]
    ]

-- Tree room is the whole records that fit, and 65,535 of them at the most.
abbrev pub room_of : List ℕ → ℕ
room_of tree = min (length tree / record_words) most_records

-- A refusal before the run: fields not named are 0.
abbrev pub before : ℕ → ℕ → Ending
before code place = record { parsed = record { code = code; place = place; length = 0; terminal = 0; records = 0; moves = 0 }; words = [] }

-- Refused with 6, then with 4, and then the run.
unfoldable pub parse : List ℕ → List ℕ → List ℕ → ℕ → Ending
parse img text tree allowance =
    elim (ltb longest_text (length text)) [
      | true ↦ before query_too_long 0
      | false ↦ elim (shape img) [
        | Wrong place ↦ before wrong_shape place
        | Good ↦ run img (look img text allowance) (room_of tree) start
      ]
    ]

-- The records stand at the front of the lent tree, and the rest is untouched.
abbrev pub tree_after : List ℕ → Ending → List ℕ
tree_after tree e = front e.words tree
