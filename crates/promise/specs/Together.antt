-- Manual, section 7: layout and tokens are scanned for together. Where an operator and a comment begin alike, what it is for the operator to be
-- the longer one, and what it is to read it.
use Rattle.std.specs.Prelude.{◌≡◌, List, ℕ, ◌<◌, ◌≤◌, length, drop}
use Rattle.sets.specs.Sets.{has}
use Rattle.numbers.specs.Codes.{allowance_used_up}
use Rattle.pack.specs.Image.{states, layout, valid_set}
use Rattle.scan.specs.Matching.{Accepts, Matches}
use Rattle.look.specs.declared.Spot.{Spot}
use Rattle.look.specs.Look.{Looked}
use Rattle.look.specs.Look.{found, refused}
use Rattle.parse.specs.Leaf.{part}

-- Terminal t competes where a state scans: the state allows it, or it is layout.
pub data Competes (img : List ℕ) (state t : ℕ) : Type 0 where
  allowed : has (valid_set img state) t ≡ 1 → Competes img state t
  as_layout : has (layout img) t ≡ 1 → Competes img state t

-- The operator is allowed and accepted with so many bytes of the text. Every other terminal that competes, a comment too, matches fewer
-- bytes, if any; and the operator itself matches no more.
pub record Longest (img text : List ℕ) (operator start size state : ℕ) : Type 0 where
  pub is_state : state < states img
  pub is_allowed : has (valid_set img state) operator ≡ 1
  pub within : size ≤ length (drop start text)
  pub accepted : Accepts img (part text start size) operator
  pub others_shorter : (t n : ℕ) → (t ≡ operator → ⊥) → Competes img state t → n ≤ length (drop start text) → Matches img (part text start n) t → n < size
  pub no_longer : (n : ℕ) → n ≤ length (drop start text) → Matches img (part text start n) operator → n ≤ size

-- What a look gives that reads a terminal with these bytes: it finds it there, with nothing skipped, or the allowance is used up there.
pub data Reads (terminal start size : ℕ) : Looked → Type 0 where
  finds : (to : Spot) → to.place ≡ start → Reads terminal start size (found size terminal to)
  cut_short : (to : Spot) → to.place ≡ start → Reads terminal start size (refused allowance_used_up 0 0 to)
