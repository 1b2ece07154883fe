-- `hexset::read_set` meets its contract. The loop's invariant: what is left to read, from where it stands, gives the same as the whole.
use mathlib.Core.Path.{◌≡◌}
use Prim.Native.Nat.{◌*◌, ◌-◌, ◌^◌, ◌<◌, ◌≤◌}
use lib.ListN.{length, drop}
use Rattle.text.specs.Fields.{hex_from}
use Rattle.hexset.proofs.read_set.Given as goal

abbrev pub invariant-loop-i : goal.invariant-loop-i
invariant-loop-i l = record {
  long : 16 ≤ length l.bytes;
  small : l.value < 65536 ^ l.i;
  same : hex_from 16 l.bytes 0 0 ≡ hex_from (16 - l.i * 4) (drop (l.i * 4) l.bytes) l.value (l.i * 4);
}
