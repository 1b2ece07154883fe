-- `putlines::table_words` meets its contract.
use native.Mathlib.Omega.{arith}
use Rattle.text.proofs.Tables.{row_fits}
use Rattle.putlines.proofs.table_words.Goals as goal

pub row_width-requires : goal.row_width-requires
row_width-requires c =
    rw c.row_of.ensures (omega (arith, row_fits c.args.form _ c.requires.0 c.args.i))
