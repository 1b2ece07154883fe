use Rattle.std.proofs.Common.{◌≡◌, ◌+◌, ◌-◌, ◌^◌, ◌<◌}
use Rattle.words.specs.Image.{terminals, valid_from, valid_set}
use Rattle.pack.proofs.image.valid_set.Given as goal

abbrev pub invariant-loop-t : goal.invariant-loop-t
invariant-loop-t l = record {
  found : l.set + valid_from l.img l.s (terminals l.img - l.t) l.t ≡ valid_set l.img l.s;
  below : l.set < 2 ^ l.t;
}
