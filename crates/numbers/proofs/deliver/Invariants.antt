-- The loop's invariant: the first i words stand at the front of the buffer, and the rest of it is untouched.
use mathlib.Core.Path.{◌≡◌}
use mathlib.Core.List.{◌++◌}
use lib.ListN.{length, take, drop}
use Rattle.numbers.proofs.deliver.Given as goal

abbrev pub invariant-loop-i : goal.invariant-loop-i
invariant-loop-i l = (length l.buffer ≡ length l.initial.buffer) × (l.buffer ≡ take l.i l.words ++ drop l.i l.initial.buffer)
