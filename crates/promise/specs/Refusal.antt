-- Manual, section 7: why a parse finds no token at a place, in the words of the scanner's Matching.antt.
use Rattle.std.specs.Prelude.{◌≡◌, List, ℕ, ◌<◌, ◌≤◌, length, drop}
use Rattle.sets.specs.Sets.{has}
use Rattle.pack.specs.Image.{dom, act, valid_set, all_but_end_and_layout, end_of_text}
use Rattle.conditions.specs.Conditions.{sought}
use Rattle.scan.specs.Matching.{Accepts, Matches, Last}
use Rattle.parse.specs.Leaf.{part}
use Rattle.promise.specs.Cover.{NoMatch}

-- The case of the letter, `group` where the keyword is not allowed: at the last length at which a terminal that is valid in the state, or
-- layout, matches, each one that does is outranked by a terminal that matches the same bytes, itself valid or not.
pub record Outdone (img text : List ℕ) (state start : ℕ) : Type 0 where
  pub size : ℕ
  pub q : ℕ
  pub last : Last img (drop start text) (sought img state) size q
  pub by : (t : ℕ) → has (sought img state) t ≡ 1 → Matches img (part text start size) t
      → (u : ℕ) × (has (dom img t) u ≡ 1) × Matches img (part text start size) u

-- Code 7 at a place before the end, in a parse state: there is no match (NoMatch) for the terminals that are valid in the state and layout
-- together, and none for the others.
pub record NoTerminal (img text : List ℕ) (state place : ℕ) : Type 0 where
  pub before_end : place < length text
  pub none_sought : NoMatch img (drop place text) (sought img state)
  pub no_other : NoMatch img (drop place text) (all_but_end_and_layout img)

-- Code 8, with its length and terminal.
pub data Unexpected (img text : List ℕ) (state place : ℕ) : ℕ → ℕ → Type 0 where
  -- The text ends where it may not end.
  at_end : length text ≤ place → act img state end_of_text ≡ 0 → has (valid_set img state) end_of_text ≡ 0
      → Unexpected img text state place 0 end_of_text
  -- There is no match for the terminals that are valid in the state and layout together. For all but the end of the text and layout there
  -- is one, at the last length at which one of them is accepted or rejected. This is the lowest of those that are accepted there. It is not
  -- valid, but where layout is outdone after more bytes; since these others do not match there, it is layout that outranks layout.
  instead : (size terminal q : ℕ) → place < length text → NoMatch img (drop place text) (sought img state)
      → Last img (drop place text) (all_but_end_and_layout img) size q
      → (has (valid_set img state) terminal ≡ 1 → (o : Outdone img text state place) × (size < o.size))
      → has (all_but_end_and_layout img) terminal ≡ 1 → Accepts img (part text place size) terminal
      → ((t : ℕ) → has (all_but_end_and_layout img) t ≡ 1 → Accepts img (part text place size) t → terminal ≤ t)
      → Unexpected img text state place size terminal
