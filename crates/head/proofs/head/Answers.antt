use mathlib.Core.Path.{sym}
use Rattle.order.proofs.Laws.{sizes_sized}
use Rattle.head.proofs.head.Goals as goal

pub needed-needed-requires : goal.needed-needed-requires
needed-needed-requires c = sizes_sized _ (sym c.in_ok-sizes.ensures)
