-- A pack in which two layout terminals outrank each other. proofs/Ring.antt shows on it that the terminal of a code 8 may be valid.
use Rattle.std.specs.Prelude.{List, [], ◌∷◌, ℕ}
use Rattle.text.specs.Bytes.{bytes}

-- Terminals: 0 the end, 1 `a`, 2 and 3 layout, both `ab`. S is `a`. After `ab` each of the two is rejected, since the other outranks it.
unfoldable pub ring : List ℕ
ring =
    1 ∷
    4 ∷ 1 ∷ 1 ∷ 3 ∷ 3 ∷ 3 ∷ 2 ∷ 0 ∷
    12 ∷ 0 ∷ 0 ∷ 0 ∷
    0 ∷ 0 ∷ 0 ∷ 0 ∷
    0 ∷ 0 ∷ 0 ∷ 0 ∷
    8 ∷ 0 ∷ 0 ∷ 0 ∷
    4 ∷ 0 ∷ 0 ∷ 0 ∷
    0 ∷ 1 ∷ 1 ∷ 0 ∷ 0 ∷ 0 ∷ 0 ∷ 0 ∷ 0 ∷ 0 ∷ 0 ∷ 0 ∷ 0 ∷ 0 ∷ 0 ∷ 0 ∷
    0 ∷ 4 ∷ 0 ∷ 0 ∷
    3 ∷ 0 ∷ 0 ∷ 0 ∷
    1 ∷ 0 ∷ 0 ∷ 0 ∷
    3 ∷
    0 ∷
    0 ∷
    97 ∷ 97 ∷ 1 ∷
    98 ∷ 98 ∷ 2 ∷
    0 ∷ 2 ∷ 0 ∷
    0 ∷ 0 ∷ 3 ∷
    0 ∷ 0 ∷ 0 ∷
    0 ∷ 0 ∷ 0 ∷ 0 ∷ 0 ∷ 0 ∷ 0 ∷ 0 ∷ 14 ∷ 0 ∷ 0 ∷ 0 ∷
    2 ∷ 0 ∷ 0 ∷ 0 ∷ 0 ∷ 0 ∷ 0 ∷ 0 ∷ 14 ∷ 0 ∷ 0 ∷ 0 ∷
    0 ∷ 0 ∷ 0 ∷ 0 ∷ 12 ∷ 0 ∷ 0 ∷ 0 ∷ 12 ∷ 0 ∷ 0 ∷ 0 ∷ []

abbrev pub ring_text : List ℕ
ring_text = bytes "ab"
