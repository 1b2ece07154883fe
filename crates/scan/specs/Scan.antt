-- Manual, sections 2.1 and 2.3: one scan, and the scan called by itself.
use Rattle.std.specs.Prelude.{Bool, true, false, List, [], ◌∷◌, ℕ, zero, suc, ◌+◌, min, ltb, length, drop}
use Rattle.sets.specs.Sets.{meet, is_empty}
use Rattle.numbers.specs.Verdicts.{Good, Wrong}
use Rattle.numbers.specs.Codes.{done, wrong_shape, query_too_long, allowance_used_up, longest_text}
use Rattle.pack.specs.Image.{class_of, move, acc, rej, poss, all_but_end}
use Rattle.shape.specs.Shape.{shape}
use Rattle.scan.specs.declared.Remembered.{Remembered}
use Rattle.scan.specs.declared.Scanned.{Scanned}

-- Where a scan stops: whether it asked for a move beyond the allowance, what it remembers (nothing where it did), and the moves that it took.
pub record Stop : Type 0 where
  pub spent : Bool
  pub set : ℕ
  pub length : ℕ
  pub moves : ℕ

-- No match.
abbrev pub nothing : Remembered
nothing = record { set = 0; length = 0 }

-- In a new state: what is accepted and valid is remembered, with the length; where there is none of it, but something valid is rejected,
-- what was remembered is forgotten.
unfoldable pub remember : ℕ → ℕ → ℕ → Remembered → Remembered
remember accepted rejected n before =
    elim (is_empty accepted) [
      | false ↦ record { set = accepted; length = n }
      | true ↦ elim (is_empty rejected) [ false ↦ nothing | true ↦ before ]
    ]

-- A stop: what is remembered is the result.
abbrev pub stopped : Remembered → ℕ → Stop
stopped kept n = record { spent = false; set = kept.set; length = kept.length; moves = n }

-- A move beyond the allowance is asked for: nothing is matched, and the moves made so far are the allowance.
abbrev pub used_up : ℕ → Stop
used_up n = record { spent = true; set = 0; length = 0; moves = n }

-- The move on the next byte: 0 where no byte is left, or there is no move; else 1 more than the state moved to.
unfoldable pub move_on : List ℕ → ℕ → List ℕ → ℕ
move_on img q [] = 0
move_on img q (b ∷ bytes) = move img q (class_of img b)

-- The three stops, in this order: nothing valid is possible any more, no byte is left, there is no move. 0 for a stop, else 1 more
-- than the state that the scan goes on to.
unfoldable pub onward : List ℕ → ℕ → ℕ → List ℕ → ℕ
onward img v q bytes = elim (is_empty (meet (poss img q) v)) [ true ↦ 0 | false ↦ move_on img q bytes ]

-- The scan in state q after n moves, each of which took one byte, with so many moves left of the allowance, over the bytes that are
-- left. A stop comes before the allowance is asked for: only a move that would be taken can be beyond it.
unfoldable pub scan_from : List ℕ → ℕ → ℕ → List ℕ → ℕ → ℕ → Remembered → Stop
scan_from img v zero bytes q n kept = elim (onward img v q bytes) [ zero ↦ stopped kept n | suc p ↦ used_up n ]
scan_from img v (suc left) bytes q n kept =
    elim (onward img v q bytes) [
      | zero ↦ stopped kept n
      | suc p ↦ scan_from img v left (drop 1 bytes) p (n + 1) (remember (meet (acc img p) v) (meet (rej img p) v) (n + 1) kept)
    ]

-- One scan with a valid set V, which lacks bit 0, over the rest of the text from the place on. It begins in scan state 0.
abbrev pub scan : List ℕ → ℕ → ℕ → List ℕ → Stop
scan img v allowance bytes = scan_from img v allowance bytes 0 0 nothing

-- A refusal of the scan called by itself: fields not named are 0.
abbrev pub refused : ℕ → ℕ → Scanned
refused code place = record { code = code; place = place; set = 0; length = 0; moves = 0 }

-- 13 where the allowance was used up, else 0.
unfoldable pub stop_code : Bool → ℕ
stop_code true = allowance_used_up
stop_code false = done

-- Its answer for what a scan from the place gives: 13, or 0 with set and length 0 for no match.
abbrev pub answer : ℕ → Stop → Scanned
answer place stop =
    record {
      code = stop_code stop.spent;
      place = place;
      set = stop.set;
      length = stop.length;
      moves = stop.moves;
    }

-- Called by itself, the scan takes any image, text, start, set and allowance. It refuses with 6, then with 4. A start past the text counts
-- as its end; bit 0 and bits from T up are dropped from the set.
unfoldable pub scan_alone : List ℕ → List ℕ → ℕ → ℕ → ℕ → Scanned
scan_alone img text start set allowance =
    elim (ltb longest_text (length text)) [
      | true ↦ refused query_too_long 0
      | false ↦ elim (shape img) [
        | Wrong place ↦ refused wrong_shape place
        | Good ↦
            let place = min start (length text) in
            answer place (scan img (meet set (all_but_end img)) allowance (drop place text))
      ]
    ]
