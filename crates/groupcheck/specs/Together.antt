-- Manual, section 4.3, for the code: which terminals can be accepted together at all, worked out once for a pack.
use Rattle.std.specs.Prelude.{◌≡◌, true, List, ℕ, ◌<◌}
use Rattle.sets.specs.Sets.{several}
use Rattle.pack.specs.Image.{acc}
use Rattle.conditions.specs.Conditions.{Subset}

-- Whatever one of the first n scan states accepts together is in the set.
pub record Together (img : List ℕ) (n set : ℕ) : Type 0 where
  pub each : (q : ℕ) → q < n → several (acc img q) ≡ true → Subset (acc img q) set
