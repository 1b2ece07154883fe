-- What the inner functions of the parse ask for and promise each other. No public entry point's contract cites it.
use Rattle.std.specs.Prelude.{◌≡◌, true, false, List, ◌++◌, ℕ, zero, suc, ◌+◌, ◌-◌, ◌*◌, ◌/◌, ◌<◌, ◌≤◌, leb, length, get_or, take, drop, Result, Ok, Err}
use Rattle.numbers.specs.Codes.{done, tree_full, stack_full, most_states}
use Rattle.pack.specs.Image.{states}
use Rattle.look.specs.declared.Spot.{Spot}
use Rattle.look.specs.Inner.{Known, Within}
use Rattle.look.specs.Errors.{error_code, error_length, error_terminal}
use Rattle.look.specs.Look.{look}
use Rattle.look.specs.declared.ParseError.{ParseError}
use Rattle.look.specs.declared.ParseError.TheVariants.{TreeFull, StackFull}
use Rattle.records.specs.declared.Parsed.{Parsed}
use Rattle.records.specs.declared.Turned.{Turned}
use Rattle.records.specs.declared.Turned.TheVariants.{Accepted, Went}
use Rattle.records.specs.declared.parser.Parser.{Parser}
use Rattle.records.specs.Parse.{Standing, Ending, Step, ends, goes, ending, run, start, room_of, record_words}

-- The records are the front of the tree.
abbrev pub standing : Parser → List ℕ → Standing
standing p tree = record { stack = p.stack; words = take (p.records * record_words) tree; at = p.at }

-- The stack holds states, of so many.
abbrev pub Stacked : ℕ → List ℕ → Type 0
Stacked n stack = (i : ℕ) → get_or stack i 0 < n

-- The manual's numbers of the end of a run.
abbrev pub parsed_of : Result (Unit {0}) ParseError → ℕ → Spot → Parsed
parsed_of (Ok u) records at = record { code = done; place = at.place; length = 0; terminal = 0; records = records; moves = at.moves }
parsed_of (Err e) records at = record { code = error_code e; place = at.place; length = error_length e; terminal = error_terminal e; records = records; moves = at.moves }

abbrev pub ended : Result (Unit {0}) ParseError → Standing → Ending
ended e here = record { parsed = parsed_of e (length here.words / record_words) here.at; words = here.words }

-- What a step comes to, within the room and the stack: "code 10 comes first, then 11, then 12".
pub data Turn : Type 0 where
  stops : Ending → Turn
  turns : Standing → Turn

unfoldable pub bounded : ℕ → Step → Turn
bounded left (ends e) = stops e
bounded zero (goes here next) = stops (ending tree_full 0 0 here)
bounded (suc left) (goes here next) = elim (leb (length next.stack) most_states) [ false ↦ stops (ending stack_full 0 0 here) | true ↦ turns next ]

-- The same of a record to be written and a state to be pushed onto a stack of this height: done where there is room for both.
unfoldable pub full : ℕ → ℕ → ℕ → Result (Unit {0}) ParseError
full room records height =
    elim (leb room records) [ true ↦ Err TreeFull | false ↦ elim (leb most_states height) [ true ↦ Err StackFull | false ↦ Ok tt ] ]

-- What the code says of it, where the parse then stands.
unfoldable pub told : Result Turned ParseError → Standing → Turn
told (Ok Accepted) here = stops (ended (Ok tt) here)
told (Ok Went) here = turns here
told (Err e) here = stops (ended (Err e) here)

-- What an action keeps: the tree's rest is untouched, the spot is at most so many bytes further, one that goes on writes a record, and
-- one that does not changes nothing.
pub record Kept (from : Parser) (tree : List ℕ) (size : ℕ) (to : Parser) (tree' : List ℕ) (r : Result Turned ParseError) : Type 0 where
  pub room : to.room ≡ from.room
  pub place : to.at.place ≤ from.at.place + size
  pub moves : to.at.moves ≡ from.at.moves
  pub rest : drop (to.records * record_words) tree' ≡ drop (to.records * record_words) tree
  pub whole : length tree' ≡ length tree
  pub grown : from.records ≤ to.records
  pub more : r ≡ Ok Went → to.records ≡ from.records + 1
  pub unchanged : (r ≡ Ok Went → ⊥) → (to ≡ from) × (tree' ≡ tree)

-- The words with four in a row in the place of those from n on.
unfoldable pub put4 : List ℕ → ℕ → List ℕ → List ℕ
put4 t n words = take n t ++ (words ++ drop (n + 4) t)

-- The same, for a whole turn: the stack holds states, within the text and the allowance, the sets still known.
pub record KeptTurn (img text : List ℕ) (allowance : ℕ) (from : Parser) (tree : List ℕ) (to : Parser) (known' tree' : List ℕ) (r : Result Turned ParseError) : Type 0 where
  pub stacked : Stacked (states img) to.stack
  pub known : Known img known'
  pub room : to.room ≡ from.room
  pub within : Within text allowance to.at
  pub rest : drop (to.records * record_words) tree' ≡ drop (to.records * record_words) tree
  pub whole : length tree' ≡ length tree
  pub grown : from.records ≤ to.records
  pub more : r ≡ Ok Went → to.records ≡ from.records + 1

-- What holds between turns: all of that, and the run from here on is the whole run.
pub record Turning (img text tree₀ : List ℕ) (allowance : ℕ) (known tree : List ℕ) (p : Parser) : Type 0 where
  pub stacked : Stacked (states img) p.stack
  pub sets : Known img known
  pub room : p.room ≡ room_of tree₀
  pub within : Within text allowance p.at
  pub rest : drop (p.records * record_words) tree ≡ drop (p.records * record_words) tree₀
  pub whole : length tree ≡ length tree₀
  pub same : run img (look img text allowance) (room_of tree₀) start ≡ run img (look img text allowance) (p.room - p.records) (standing p tree)
