-- `fields::digits` meets its contract. The loop's invariant: what is left to read, from where it stands, gives the same as the whole.
use mathlib.Core.Path.{◌≡◌}
use Prim.Native.Nat.{◌+◌, ◌*◌, ◌≤◌}
use lib.ListN.{drop}
use Rattle.text.specs.Decimal.{digits_from}
use Rattle.fields.proofs.digits.Given as goal

abbrev pub invariant-loop-used : goal.invariant-loop-used
invariant-loop-used l = record {
  small : l.value ≤ l.limit * 10 + 9;
  same : digits_from l.limit l.bytes 0 0 ≡ digits_from l.limit (drop l.used l.bytes) l.value l.used;
}
