-- What the parts of the printer ask for and promise each other: bytes in the buffer. The public function's contract cites none of it.
use Rattle.std.specs.Prelude.{◌≡◌, List, ◌++◌, ℕ, ◌+◌, ◌≤◌, length, take, drop}
use Rattle.print.specs.Print.{Tree}
use Rattle.measure.specs.Steps.{Back}
use Rattle.printwalk.specs.declared.Cursor.{Cursor}

-- There is room for these bytes before a place of the buffer.
pub record Room (bytes out : List ℕ) (to : ℕ) : Type 0 where
  pub fits : length bytes ≤ to
  pub within : to ≤ length out

-- They were written so that they end at the place, and r is the place where they begin.
pub record Wrote (bytes out : List ℕ) (to : ℕ) (out' : List ℕ) (r : ℕ) : Type 0 where
  pub begins : r + length bytes ≡ to
  pub holds : out' ≡ take r out ++ (bytes ++ drop to out)

-- Trees that print as these bytes were printed, and leave these standing.
pub record Prints (text tree : List ℕ) (n : ℕ) (bytes : List ℕ) (rest : List Tree) (out : List ℕ) (to : ℕ) (out' : List ℕ) (r : Cursor) : Type 0 where
  pub wrote : Wrote bytes out to out' r.at
  pub back : Back text tree n rest r.left
