-- `rows::read_fields` meets its contract. The loop's invariant: the fields that are left, read from where it stands, give the same as
-- all of them.
use mathlib.Core.Path.{◌≡◌}
use mathlib.Core.List.{List, ◌++◌}
use Prim.Native.Nat.{ℕ, ◌*◌, ◌-◌, ◌≤◌}
use lib.ListN.{length, take}
use Rattle.text.specs.Fields.{width_of}
use Rattle.text.specs.Reader.{read_fields}
use Rattle.rows.proofs.read_fields.Given as goal

abbrev pub invariant-loop-i : goal.invariant-loop-i
invariant-loop-i g l = record {
  within : length l.left ≤ length l.bytes;
  same : (w : List ℕ) → read_fields g.F.FieldForm.kind l.n l.end w l.bytes ≡ read_fields g.F.FieldForm.kind (l.n - l.i) l.end (w ++ take (l.i * width_of g.F.FieldForm.kind) l.row) l.left;
}
