-- Manual, sections 1.7 and 5.2: a move of a pack text from one form to another. It is refused by 2, 1 and 4 for the source, then by 2
-- and 3 for the target. A source of another form has a wrong first line.
use Rattle.std.specs.Prelude.{true, false, List, ℕ, ltb, length}
use Rattle.numbers.specs.Codes.{text_too_long, longest_text}
use Rattle.numbers.specs.Front.{Delivery, refuse}
use Rattle.text.specs.declared.Form.{Form}
use Rattle.text.specs.Reader.{read_in, judge}
use Rattle.text.specs.Writer.{write_good}

unfoldable pub reform : Form → Form → List ℕ → List ℕ → Delivery
reform from to text buffer =
    elim (ltb longest_text (length text)) [
      | true ↦ refuse text_too_long 0
      | false ↦ judge (length text) (λ words. write_good to words (length buffer)) (read_in from text)
    ]
