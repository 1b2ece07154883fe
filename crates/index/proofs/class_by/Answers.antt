use Rattle.index.proofs.Begins.{last_class}
use Rattle.index.proofs.class_by.Goals as goal

pub returns : goal.returns
returns c =
    rw c.from-byte.ensures at (last_class _ c.requires.ready.good _ _ (c.told-r.ensures _ c.requires.indexed) c.if-r-eq0.false c.holding.ensures)
