-- What the functions that find the terminal of a match ask of its set. No public entry point's contract cites it.
use Rattle.std.specs.Prelude.{◌≡◌, List, ℕ, ◌<◌}
use Rattle.sets.specs.Sets.{has}
use Rattle.pack.specs.Image.{terminals}

-- Every member of the set is a terminal.
pub record Terms (img : List ℕ) (set : ℕ) : Type 0 where
  pub each : (t : ℕ) → has set t ≡ 1 → t < terminals img
