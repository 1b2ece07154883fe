-- Manual, section 3.1: what the parse looks for in the text. Layout and the state's terminals are scanned for together; layout is skipped,
-- and the next token is found, from a parse state and a spot in the text alone.
use Rattle.std.specs.Prelude.{Bool, true, false, ◌&&◌, List, ℕ, zero, suc, ◌+◌, ◌-◌, eqb, leb, length, drop}
use Rattle.sets.specs.Sets.{is_empty, member, less, single, lowest}
use Rattle.numbers.specs.Codes.{done, no_terminal, unexpected, no_group, allowance_used_up}
use Rattle.pack.specs.Image.{layout, all_but_end_and_layout, end_of_text}
use Rattle.conditions.specs.Conditions.{sought}
use Rattle.scan.specs.Scan.{scan}
use Rattle.scan.specs.Token.{terminal_of}
use Rattle.look.specs.declared.Spot.{Spot}

-- What one scan found, and where the parse then stands.
pub record Sought : Type 0 where
  pub spent : Bool
  pub set : ℕ
  pub length : ℕ
  pub at : Spot

-- What is found where the parse stands: code 0 and a token, or one of the codes 7, 8, 9 and 13.
pub record Looked : Type 0 where
  pub code : ℕ
  pub length : ℕ
  pub terminal : ℕ
  pub at : Spot

-- Where the parse stands in the text is a spot: the place and the moves made.
-- After the moves of a scan; past so many bytes.
abbrev pub scanned : ℕ → Spot → Spot
scanned n at = record { place = at.place; moves = at.moves + n }

abbrev pub past : ℕ → Spot → Spot
past size at = record { place = at.place + size; moves = at.moves }

-- One scan from the spot, within what is left of the allowance. This is the only place that scans.
unfoldable pub seek : List ℕ → List ℕ → ℕ → ℕ → Spot → Sought
seek img text allowance v at =
    let stop = scan img v (allowance - at.moves) (drop at.place text) in
    record { spent = stop.spent; set = stop.set; length = stop.length; at = scanned stop.moves at }

-- What is found from the spot on: a token, or one of the codes 7, 8, 9 and 13; and the spot then, past skipped layout and before
-- the token.
abbrev pub refused : ℕ → ℕ → ℕ → Spot → Looked
refused code size terminal at = record { code = code; length = size; terminal = terminal; at = at }

abbrev pub found : ℕ → ℕ → Spot → Looked
found size terminal at = refused done size terminal at

-- No match: a second scan for all terminals but the end of the text and layout. What it matches is unexpected, and its lowest terminal is
-- given; where it matches nothing either, no terminal matches.
unfoldable pub rescan : List ℕ → List ℕ → ℕ → Spot → Looked
rescan img text allowance at =
    let f = seek img text allowance (all_but_end_and_layout img) at in
    elim f.spent [
      | true ↦ refused allowance_used_up 0 0 f.at
      | false ↦ elim (is_empty f.set) [
        | true ↦ refused no_terminal 0 0 f.at
        | false ↦ refused unexpected f.length (lowest f.set) f.at
      ]
    ]

-- The terminal of a match, or code 9.
unfoldable pub choose : List ℕ → ℕ → ℕ → Spot → Looked
choose img set size at = elim (terminal_of img set) [ zero ↦ refused no_group size 0 at | suc t ↦ found size t at ]

-- The set that is scanned for in state s: the terminals that are valid in it, less the end of the text, and layout.
abbrev pub sought_set : List ℕ → ℕ → ℕ
sought_set img s = less (sought img s) (single 0)

-- What a scan in state s matches, layout or a token, afresh each time.
unfoldable pub piece : List ℕ → List ℕ → ℕ → ℕ → Spot → Looked
piece img text allowance s at =
    let f = seek img text allowance (sought_set img s) at in
    elim f.spent [
      | true ↦ refused allowance_used_up 0 0 f.at
      | false ↦ elim (is_empty f.set) [
        | true ↦ rescan img text allowance f.at
        | false ↦ choose img f.set f.length f.at
      ]
    ]

-- It is a layout terminal.
unfoldable pub is_layout : List ℕ → Looked → Bool
is_layout img l = eqb l.code done && member (layout img) l.terminal

-- At the end of the text nothing is scanned: there the token is the end of the text. Before it a layout terminal is skipped, and the scan is
-- made again in the same state; what is matched otherwise is the token. The count is one of the bytes that are left, since each piece of
-- layout takes at least one.
unfoldable pub look_on : List ℕ → List ℕ → ℕ → ℕ → ℕ → Spot → Looked
look_on img text allowance s zero at = found 0 end_of_text at
look_on img text allowance s (suc left) at =
    let l = piece img text allowance s at in
    elim (leb (length text) at.place) [
      | true ↦ found 0 end_of_text at
      | false ↦ elim (is_layout img l) [ false ↦ l | true ↦ look_on img text allowance s left (past l.length l.at) ]
    ]

unfoldable pub look : List ℕ → List ℕ → ℕ → ℕ → Spot → Looked
look img text allowance s at = look_on img text allowance s (length text - at.place) at
