-- The fields of a line: numbers and sets, and the turns of the loop over fields.
use mathlib.Core.Path.{◌≡◌, refl, ap, ◌∙◌}
use mathlib.Core.List.{List, [], ◌∷◌, ◌++◌}
use Prim.Native.Nat.{ℕ, zero, suc, ◌+◌, ◌*◌, ◌-◌, ◌/◌, ◌%◌, ◌<◌, ◌≤◌}
use native.Mathlib.Nat.{add-zero, zero-add, suc-mul}
use native.Mathlib.Numerals.{add-one, sub-one}
use native.Mathlib.Omega.{arith}
use lib.ListN.{length, get_or, take, length-append}
use lib.Seq.{take-suc}
use Rattle.text.specs.declared.Kind.{Kind}
use Rattle.text.specs.declared.Kind.TheVariants.{Number, Set}
use Rattle.text.specs.Decimal.{decimal}
use Rattle.text.specs.Fields.{hex_of, hex_word, field_text, width_of}
use Rattle.text.specs.Form.{after}
use Rattle.text.specs.Writer.{fields_text}
use Rattle.text.proofs.Decimal.{decimal_one, decimal_more}
use Rattle.putfields.specs.Steps.{lead}

-- ---- a name
pub name_on : (name : List ℕ) (i : ℕ) → i < length name → take (i + 1) name ≡ take i name ++ (get_or name i 0 ∷ [])
name_on name i h = rw (add-one i) (take-suc name i 0 h)

-- ---- numbers: the digits in front of the last, and what they are
front : ℕ → List ℕ
front zero = []
front (suc q) = decimal (suc q)

decimal_front : (n : ℕ) → decimal n ≡ front (n / 10) ++ ((48 + n % 10) ∷ [])
unfolding front
decimal_front n = go (n / 10) refl
  where
    go : (q : ℕ) → n / 10 ≡ q → decimal n ≡ front q ++ ((48 + n % 10) ∷ [])
    go zero e = let z : n % 10 ≡ n = omega arith in decimal_one n (omega arith) ∙ rw z
    go (suc q) e = rw (← e) (decimal_more n (omega arith))

front_lead : (q : ℕ) → front q ≡ front (q / 10) ++ lead q
unfolding front lead
front_lead zero = refl
front_lead (suc q) = decimal_front (suc q)

module _ (n : ℕ) where
  abbrev pub two : List ℕ
  two = lead (n / 10 / 10 / 10 / 10) ++ lead (n / 10 / 10 / 10)

  abbrev pub three : List ℕ
  three = two ++ lead (n / 10 / 10)

  abbrev pub four : List ℕ
  four = three ++ lead (n / 10)

  -- Five digits are enough for a word.
  pub decimal_five : n < 65536 → decimal n ≡ four ++ ((48 + n % 10) ∷ [])
  unfolding front
  decimal_five h =
      let z : n / 10 / 10 / 10 / 10 / 10 ≡ 0 = omega arith in
      decimal_front n ∙ rw (front_lead (n / 10), front_lead (n / 10 / 10), front_lead (n / 10 / 10 / 10), front_lead (n / 10 / 10 / 10 / 10), z)

pub lead_none : (q : ℕ) → q ≡ 0 → lead q ≡ []
unfolding lead
lead_none q e = rw e

pub lead_some : (q : ℕ) → (q ≡ 0 → ⊥) → lead q ≡ (48 + q % 10) ∷ []
unfolding lead
lead_some zero z = absurd (z refl)
lead_some (suc q) z = refl

pub lead_length : (q : ℕ) → (q ≡ 0 → ⊥) → length (lead q) ≡ 1
lead_length q z = rw (lead_some q z)

pub one_digit : (n : ℕ) → n < 10 → length (decimal n) ≡ 1
one_digit n h = rw (decimal_one n h)

pub decimal_length : (n : ℕ) → n < 65536 → length (decimal n) ≡ length (lead (n / 10 / 10 / 10 / 10)) + length (lead (n / 10 / 10 / 10)) + length (lead (n / 10 / 10)) + length (lead (n / 10)) + 1
decimal_length n h = rw (decimal_five n h, length-append (four n) ((48 + n % 10) ∷ []), length-append (three n) (lead (n / 10)), length-append (two n) (lead (n / 10 / 10)), length-append (lead (n / 10 / 10 / 10 / 10)) (lead (n / 10 / 10 / 10)))

-- ---- hex
-- The bytes of the digits from i on.
hexes : ℕ → ℕ → List ℕ
hexes zero i = []
hexes (suc n) i = hex_of i ∷ hexes n (suc i)

hexes_at : (n i k : ℕ) → k < n → get_or (hexes n i) k 0 ≡ hex_of (i + k)
unfolding hexes
hexes_at zero i k h = absurd (omega arith)
hexes_at (suc n) i zero h = rw (add-zero i)
hexes_at (suc n) i (suc k) h = let z : suc i + k ≡ i + suc k = omega arith in hexes_at n (suc i) k (omega arith) ∙ rw z

pub hex_digit : (d : ℕ) → d < 16 → get_or (48 ∷ 49 ∷ 50 ∷ 51 ∷ 52 ∷ 53 ∷ 54 ∷ 55 ∷ 56 ∷ 57 ∷ 97 ∷ 98 ∷ 99 ∷ 100 ∷ 101 ∷ 102 ∷ []) d 0 ≡ hex_of d
unfolding hexes hex_of
hex_digit d h = hexes_at 16 0 d h ∙ ap hex_of (zero-add d)

pub hex_text : (w : ℕ) {a b c d : ℕ} → a ≡ hex_of (w / 16 / 16 / 16) → b ≡ hex_of (w / 16 / 16 % 16) → c ≡ hex_of (w / 16 % 16) → d ≡ hex_of (w % 16)
    → hex_word w [] ≡ a ∷ b ∷ c ∷ d ∷ []
unfolding hex_word
hex_text w e f g h = rw (← e, ← f, ← g, ← h)

pub set_sixteen : (img : List ℕ) (i : ℕ) → length (field_text Set img i) ≡ 16
unfolding field_text hex_word
set_sixteen img i = refl

hex_rest : (w : ℕ) (rest : List ℕ) → hex_word w rest ≡ hex_word w [] ++ rest
unfolding hex_word
hex_rest w rest = refl

pub set_text : (img : List ℕ) (i : ℕ) {a b c d : ℕ} → a ≡ get_or img (i + 3) 0 → b ≡ get_or img (i + 2) 0 → c ≡ get_or img (i + 1) 0 → d ≡ get_or img i 0
    → field_text Set img i ≡ hex_word a [] ++ (hex_word b [] ++ (hex_word c [] ++ hex_word d []))
unfolding field_text
set_text img i {a} {b} {c} e f g h =
    rw (← e, ← f, ← g, ← h) (hex_rest a _ ∙ ap (λ (l : List ℕ). hex_word a [] ++ l) (hex_rest b _ ∙ ap (λ (l : List ℕ). hex_word b [] ++ l) (hex_rest c _)))

-- ---- fields
module _ (kind : Kind) (left end : ℕ) (img : List ℕ) (from : ℕ) where
  pub fields_on : 0 < left
      → fields_text kind left end img from ≡ field_text kind img from ++ ((after (left - 1) end ∷ []) ++ fields_text kind (left - 1) end img (from + width_of kind))
  unfolding fields_text
  fields_on z = go left refl
    where
      go : (n : ℕ) → left ≡ n
          → fields_text kind n end img from ≡ field_text kind img from ++ ((after (n - 1) end ∷ []) ++ fields_text kind (n - 1) end img (from + width_of kind))
      go zero e = absurd (omega (arith, z, e))
      go (suc n) e = rw (sub-one (suc n))

  pub fields_length : 0 < left
      → length (fields_text kind left end img from) ≡ length (field_text kind img from) + suc (length (fields_text kind (left - 1) end img (from + width_of kind)))
  fields_length z = ap length (fields_on z) ∙ length-append (field_text kind img from) _

  pub fields_none : left ≤ 0 → fields_text kind left end img from ≡ []
  unfolding fields_text
  fields_none z = let e : left ≡ 0 = omega arith in rw e

-- A set has sixteen digits, and a byte behind them.
pub sets_size : (n end : ℕ) (img : List ℕ) (from : ℕ) → length (fields_text Set n end img from) ≡ n * 17
unfolding fields_text
sets_size zero end img from = refl
sets_size (suc n) end img from =
    length-append (field_text Set img from) _ ∙ rw (set_sixteen img from, sets_size n end img (from + 4), suc-mul n 17) (omega arith)

pub one_more : (left w : ℕ) → 0 < left → left * w ≡ (left - 1) * w + w
one_more zero w z = absurd (omega (arith, z))
one_more (suc left) w z = rw (sub-one (suc left)) (suc-mul left w)

pub field_number : (kind : Kind) (img : List ℕ) (i w : ℕ) → kind ≡ Number → w ≡ get_or img i 0 → field_text kind img i ≡ decimal w
unfolding field_text
field_number kind img i w e f = rw (e, f)

pub field_set : (kind : Kind) (img : List ℕ) (i : ℕ) → kind ≡ Set → field_text kind img i ≡ field_text Set img i
field_set kind img i e = rw e

pub number_field : (img : List ℕ) (from : ℕ) → field_text Number img from ≡ decimal (get_or img from 0)
unfolding field_text
number_field img from = refl
