use Rattle.shape.proofs.Good.{good_class}
use Rattle.classes.proofs.class_of.Goals as goal

pub returns : goal.returns
returns c =
    let e = rw c.from.ensures at c.sought.ensures in
    (e, rw e (good_class _ c.requires.good _))
