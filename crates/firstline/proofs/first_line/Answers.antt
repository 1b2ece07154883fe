-- `firstline::first_line` meets its contract.
use Rattle.text.specs.Form.{pack_line}
use Rattle.firstline.proofs.first_line.Goals as goal

pub returns-in-One : goal.returns-in-One
unfolding pack_line
returns-in-One c = rw c.in-One.is c.expect.ensures

pub returns-in-Two : goal.returns-in-Two
unfolding pack_line
returns-in-Two c = rw c.in-Two.is c.expect-in-Two.ensures
