-- The loop's invariant: the first i bytes of the row are those of the name.
use Rattle.std.proofs.Common.{◌≡◌, take}
use Rattle.names.proofs.put_name.Given as goal

abbrev pub invariant-loop-i : goal.invariant-loop-i
invariant-loop-i l = take l.i l.row ≡ take l.i l.name
