-- What the inner functions of the scan ask for and keep. The scan called by itself asks for none of it.
use Rattle.std.specs.Prelude.{◌≡◌, List, ℕ, ◌+◌, ◌<◌, ◌≤◌}
use Rattle.pack.specs.Image.{lo}
use Rattle.pack.specs.Laid.{Laid}
use Rattle.numbers.specs.Verdicts.{Good}
use Rattle.shape.specs.Shape.{shape}

-- A pack of good shape: what a scan needs, asked for once.
pub record Ready (img : List ℕ) : Type 0 where
  pub laid : Laid img
  pub good : shape img ≡ Good

-- The search for the class of byte b goes on from range s: from one that is so many later than r where that one begins at the byte or
-- below it, else from r.
pub record Onward (img : List ℕ) (b r by s : ℕ) : Type 0 where
  pub later : lo img (r + by) ≤ b → s ≡ r + by
  pub here : b < lo img (r + by) → s ≡ r
