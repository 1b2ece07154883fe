-- `putfields::hex_byte` meets its contract: the table of digits keeps the rule at each of its entries.
use Rattle.putfields.proofs.FieldLaws.{hex_digit}
use Rattle.putfields.proofs.hex_byte.Goals as goal

pub returns : goal.returns
returns c = hex_digit _ c.requires
