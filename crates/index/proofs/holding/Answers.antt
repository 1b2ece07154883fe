use Rattle.std.proofs.Common.{arith}
use Rattle.shape.proofs.Good.{good_byte}
use Rattle.index.proofs.holding.Goals as goal

pub up_to-requires : goal.up_to-requires
up_to-requires c =
    (c.requires.byte_bound, omega (arith, c.hi.ensures, good_byte _ c.requires.ready.good _ c.requires.r_bound))
