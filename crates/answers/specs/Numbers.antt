-- Manual, section 5.3: what the C entry points put into the lent row of numbers: all of them at its front, or none where they do not fit.
use Rattle.std.specs.Prelude.{true, false, List, [], ◌∷◌, ℕ, ltb, length, get_or}
use Rattle.numbers.specs.Front.{Delivery, deliver, buffer_after}
use Rattle.numbers.specs.declared.Answer.{Answer}
use Rattle.numbers.specs.Verdicts.{Verdict, verdict_code, verdict_place}
use Rattle.conditions.specs.declared.Checked.{Checked}
use Rattle.scan.specs.declared.Scanned.{Scanned}
use Rattle.records.specs.declared.Parsed.{Parsed}
use Rattle.leaf.specs.declared.Part.{Part}
use Rattle.records.specs.Parse.{record_words}
use Rattle.leaf.specs.Leaf.{leaf_part}

-- How many are told.
abbrev pub told : List ℕ → List ℕ → ℕ
told out numbers = length (deliver numbers (length out)).written

-- What the row holds afterwards.
abbrev pub written : List ℕ → List ℕ → List ℕ
written out numbers = buffer_after out (deliver numbers (length out))

-- Code and place.
abbrev pub of_shape : Verdict → List ℕ
of_shape v = verdict_code v ∷ verdict_place v ∷ []

-- Code, place, set, length and moves.
abbrev pub of_scan : Scanned → List ℕ
of_scan s = s.code ∷ s.place ∷ s.set ∷ s.length ∷ s.moves ∷ []

-- Code and number.
abbrev pub of_answer : Answer → List ℕ
of_answer a = a.code ∷ a.number ∷ []

-- Those of a delivery, whatever it wrote.
abbrev pub of_text : Delivery → List ℕ
of_text d = of_answer d.answer

-- Code, number and the two places.
abbrev pub of_check : Checked → List ℕ
of_check c = c.code ∷ c.number ∷ c.first ∷ c.second ∷ []

-- Code, place, length, terminal, records and moves.
abbrev pub of_parse : Parsed → List ℕ
of_parse p = p.code ∷ p.place ∷ p.length ∷ p.terminal ∷ p.records ∷ p.moves ∷ []

-- Start and length of a part.
abbrev pub of_part : Part → List ℕ
of_part p = p.start ∷ p.length ∷ []

-- The part of a text that the record at the front of a row stands for. A row of fewer words than a record has none.
unfoldable pub part_of : List ℕ → List ℕ → Part
part_of text row =
    elim (ltb (length row) record_words) [
      | true ↦ record { start = 0; length = 0 }
      | false ↦ leaf_part text (get_or row 0 0) (get_or row 1 0) (get_or row 2 0) (get_or row 3 0)
    ]
