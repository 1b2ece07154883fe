-- Manual, section 5.3: what lent memory holds. Whatever is put into a lent buffer is spoken of through this file.
use Rattle.std.specs.Prelude.{◌≡◌, true, false, List, [], ◌++◌, ℕ, ltb, length, drop}
use Rattle.numbers.specs.Codes.{done, room_too_small}
use Rattle.numbers.specs.declared.Answer.{Answer}

-- What is given stands at the front of the lent buffer, and the rest is untouched.
abbrev pub front : List ℕ → List ℕ → List ℕ
front output buffer = output ++ drop (length output) buffer

-- The answer, and the words or bytes written, which are none in a refusal.
pub record Delivery : Type 0 where
  pub answer : Answer
  pub written : List ℕ

abbrev pub refuse : ℕ → ℕ → Delivery
refuse code number = record { answer = record { code = code; number = number }; written = [] }

-- Where the room is too small, the size that is needed is told; where it is not, how much was written.
unfoldable pub deliver : List ℕ → ℕ → Delivery
deliver output room =
    elim (ltb room (length output)) [
      | true ↦ refuse room_too_small (length output)
      | false ↦ record { answer = record { code = done; number = length output }; written = output }
    ]

-- What the buffer holds afterwards.
abbrev pub buffer_after : List ℕ → Delivery → List ℕ
buffer_after buffer d = front d.written buffer

-- These are the answer and the buffer of a delivery.
pub record Delivers (d : Delivery) (buffer buffer' : List ℕ) (r : Answer) : Type 0 where
  pub given : r ≡ d.answer
  pub left : buffer' ≡ buffer_after buffer d
