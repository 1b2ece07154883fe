use Rattle.measure.proofs.Sizes.{number_last, number_more}
use Rattle.measure.proofs.+with_number.Goals as goal

pub returns-then-n-lt10 : goal.returns-then-n-lt10
returns-then-n-lt10 t c = number_last _ _ c.if-n-lt10.true c.plus.ensures

pub returns : goal.returns
returns t c = number_more _ _ c.if-n-lt10.false c.plus-2.ensures c.with_number.ensures
