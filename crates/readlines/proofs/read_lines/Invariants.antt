-- `readlines::read_lines` meets its contract. The loop's invariant: the lines that are left, read from where it stands, give the same as
-- all of them.
use mathlib.Core.Path.{◌≡◌}
use mathlib.Core.List.{List, ◌++◌}
use Prim.Native.Nat.{ℕ, ◌*◌, ◌-◌, ◌≤◌}
use lib.ListN.{length, take}
use Rattle.text.specs.Form.{row_width}
use Rattle.text.specs.Reader.{read_lines}
use Rattle.readlines.proofs.read_lines.Given as goal

abbrev pub invariant-loop-i : goal.invariant-loop-i
invariant-loop-i l = record {
  within : length l.left ≤ length l.bytes;
  same : (w : List ℕ) → read_lines l.name l.row l.n w l.bytes ≡ read_lines l.name l.row (l.n - l.i) (w ++ take (l.i * row_width l.row) l.rows) l.left;
}
