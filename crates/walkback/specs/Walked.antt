-- Manual, section 4.5, for the code: the walk back of K5, worked out once for a parse state s and used for every production.
use Rattle.std.specs.Prelude.{◌≡◌, ◌&&◌, List, ℕ, ◌<◌, ◌≤◌, ltb, length}
use Rattle.pack.specs.Image.{states}
use Rattle.conditions.specs.Tests.{some_below}
use Rattle.conditions.specs.Edges.{enters, reached}
use Rattle.edges.specs.Rows.{bit_at}

-- Set i of `back` holds the states reached from s by i edges back, up to a depth; set i of `into` the symbols on all edges into those
-- states, below the depth.
pub record Walked (img : List ℕ) (s depth : ℕ) (back into : List ℕ) : Type 0 where
  pub size : length back ≡ 128
  pub into_size : length into ≡ 128
  pub each : (i u : ℕ) → i ≤ depth → u < 128 → bit_at back i u ≡ (ltb u (states img) && reached img s i u)
  pub symbols : (i x : ℕ) → i < depth → x < 128 → bit_at into i x ≡ some_below (states img) (λ v. reached img s i v && enters img v x)
