use Rattle.std.proofs.Common.{sym}
use Rattle.order.proofs.Laws.{head_laid}
use Rattle.shape.proofs.shape.Goals as goal

pub parser_rules-requires : goal.parser_rules-requires
parser_rules-requires c = head_laid _ (sym c.in_ok-head.ensures)

pub scanner_rules-requires : goal.scanner_rules-requires
scanner_rules-requires c = head_laid _ (sym c.in_ok-head.ensures)
