-- What an index of the ranges tells. No definition that a reader must believe uses this file.
use Rattle.std.specs.Prelude.{◌≡◌, List, ℕ, ◌+◌, ◌*◌, ◌/◌, ◌%◌, ◌^◌, ◌<◌, ◌≤◌, length, get_or}
use Rattle.pack.specs.Image.{ranges, lo}

-- So many ranges begin at byte b or below it, and the others above it.
pub record Begun (img : List ℕ) (b r : ℕ) : Type 0 where
  pub within : r ≤ ranges img
  pub below : (k : ℕ) → k < r → lo img k ≤ b
  pub above : (k : ℕ) → r ≤ k → k < ranges img → b < lo img k

-- An entry of eight bytes: above eight fields of three bits stands how many ranges begin at the first byte or below it, and in the field of each
-- byte how many more begin up to it.
abbrev pub base : ℕ → ℕ
base entry = entry / 16777216

abbrev pub field : ℕ → ℕ → ℕ
field entry j = entry / 8 ^ j % 8

pub record Tells (img : List ℕ) (first entry : ℕ) : Type 0 where
  pub here : Begun img first (base entry)
  pub each : (j : ℕ) → j < 8 → Begun img (first + j) (base entry + field entry j)

-- An index has an entry for every eight bytes.
pub record Indexed (img index : List ℕ) : Type 0 where
  pub size : length index ≡ 32
  pub each : (i : ℕ) → i < 32 → Tells img (i * 8) (get_or index i 0)
