-- `rows::read_row` meets its contract.
use native.Mathlib.Omega.{arith}
use Rattle.text.specs.Form.{row_width}
use Rattle.text.specs.Reader.{read_row}
use Rattle.rows.proofs.read_row.Goals as goal

pub read_fields-requires-clause-whole : goal.read_fields-requires-clause-whole
unfolding row_width
read_fields-requires-clause-whole c = let e = rw c.in-Numbers.is at c.requires.whole in omega (arith, e)

pub read_fields-requires-in-Sets-clause-whole : goal.read_fields-requires-in-Sets-clause-whole
unfolding row_width
read_fields-requires-in-Sets-clause-whole c = let e = rw c.in-Sets.is at c.requires.whole in omega (arith, e)

pub read_production-requires : goal.read_production-requires
unfolding row_width
read_production-requires c = let e = rw c.in-Production.is at c.requires.whole in omega (arith, e)

pub read_group-requires : goal.read_group-requires
unfolding row_width
read_group-requires c = let e = rw c.in-Group.is at c.requires.whole in omega (arith, e)

pub returns-in-Numbers : goal.returns-in-Numbers
unfolding read_row row_width
returns-in-Numbers c = rw c.in-Numbers.is c.read_fields.ensures

pub returns-in-Cells : goal.returns-in-Cells
unfolding read_row row_width
returns-in-Cells c = let e = rw c.in-Cells.is at c.requires.whole in rw c.in-Cells.is (rw e at c.read_cells.ensures)

pub returns-in-Sets : goal.returns-in-Sets
unfolding read_row row_width
returns-in-Sets c = rw c.in-Sets.is c.read_fields-in-Sets.ensures
