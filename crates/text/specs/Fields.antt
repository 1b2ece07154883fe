-- Manual, section 1.2: the fields of a line. A field is a number in decimal, or a set as 16 lowercase hex digits, highest first.
-- What is read at the front of the bytes that are left, and what is written.
use Rattle.std.specs.Prelude.{true, false, ◌&&◌, List, [], ◌∷◌, ℕ, zero, suc, ◌+◌, ◌*◌, ◌-◌, ◌/◌, ◌%◌, leb, ltb, get_or}
use Rattle.pack.specs.Image.{set_words}
use Rattle.text.specs.declared.Field.{Field}
use Rattle.text.specs.declared.Kind.{Kind}
use Rattle.text.specs.declared.Kind.TheVariants.{Number, Set}
use Rattle.text.specs.Decimal.{none, is_digit, read_number, decimal}

-- The greatest number of a pack text: every number becomes a word of the image.
abbrev pub greatest_word : ℕ
greatest_word = 65535

-- A hex digit is 1 more than its value, and any other byte 0.
unfoldable pub hex_digit : ℕ → ℕ
hex_digit b =
    elim (is_digit b) [
      | true ↦ b - 47
      | false ↦ elim (leb 97 b && leb b 102) [ true ↦ b - 86 | false ↦ 0 ]
    ]

-- So many hex digits, after `used` of them with this value.
unfoldable pub hex_from : ℕ → List ℕ → ℕ → ℕ → Field
hex_from zero bytes value used = record { value = value; used = used }
hex_from (suc n) [] value used = none
hex_from (suc n) (b ∷ bytes) value used =
    elim (hex_digit b) [ zero ↦ none | suc d ↦ hex_from n bytes (value * 16 + d) (used + 1) ]

unfoldable pub read_set : List ℕ → Field
read_set bytes = hex_from 16 bytes 0 0

unfoldable pub read_field : Kind → List ℕ → Field
read_field Number bytes = read_number greatest_word bytes
read_field Set bytes = read_set bytes

-- The words of a value in the image; a set has four, lowest first.
unfoldable pub words_of : Kind → ℕ → List ℕ
words_of Number value = value ∷ []
words_of Set value =
    value % 65536 ∷ value / 65536 % 65536 ∷ value / 65536 / 65536 % 65536 ∷ value / 65536 / 65536 / 65536 ∷ []

abbrev pub width_of : Kind → ℕ
width_of Number = 1
width_of Set = set_words

-- A word as four hex digits, highest first.
unfoldable pub hex_of : ℕ → ℕ
hex_of d = elim (ltb d 10) [ true ↦ 48 + d | false ↦ 87 + d ]

unfoldable pub hex_word : ℕ → List ℕ → List ℕ
hex_word w rest =
    hex_of (w / 16 / 16 / 16) ∷ hex_of (w / 16 / 16 % 16) ∷ hex_of (w / 16 % 16) ∷ hex_of (w % 16) ∷ rest

-- The field whose words stand at a place of the image.
unfoldable pub field_text : Kind → List ℕ → ℕ → List ℕ
field_text Number img at = decimal (get_or img at 0)
field_text Set img at =
    hex_word (get_or img (at + 3) 0) (hex_word (get_or img (at + 2) 0) (hex_word (get_or img (at + 1) 0) (hex_word (get_or img at 0) [])))
