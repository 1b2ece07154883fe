-- `cells::read_cells` meets its contract. The loop's invariant: the columns that are left, read from where it stands, give the same
-- as all of them.
use mathlib.Core.Path.{◌≡◌}
use mathlib.Core.Bool.{true}
use mathlib.Core.List.{List, ◌++◌}
use Prim.Native.Nat.{ℕ, ◌-◌, ◌≤◌}
use lib.ListN.{length, take}
use Rattle.text.specs.Reader.{read_cells}
use Rattle.cells.proofs.read_cells.Given as goal

abbrev pub invariant-columns : goal.invariant-columns
invariant-columns l = record {
  next_inside : l.next ≤ l.n;
  row_whole : length l.row ≡ l.n;
  within : length l.left ≤ length l.bytes;
  same : (w : List ℕ) → read_cells true l.n 0 w l.bytes ≡ read_cells l.first (l.n - l.next) l.next (w ++ take l.next l.row) l.left;
}

abbrev pub decreases-columns : goal.decreases-columns
decreases-columns l = l.n - l.next
