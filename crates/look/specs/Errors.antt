-- The manual's numbers for each way that a parse is refused: the code, and the length and terminal that go with it.
use Rattle.std.specs.Prelude.{ℕ}
use Rattle.numbers.specs.Codes.{no_terminal, unexpected, no_group, stuck, tree_full, stack_full, allowance_used_up}
use Rattle.look.specs.declared.ParseError.{ParseError}
use Rattle.look.specs.declared.ParseError.TheVariants.{NoTerminal, Unexpected, NoGroup, Stuck, TreeFull, StackFull, AllowanceUsedUp}

abbrev pub error_code : ParseError → ℕ
error_code NoTerminal = no_terminal
error_code (Unexpected size terminal) = unexpected
error_code (NoGroup size) = no_group
error_code Stuck = stuck
error_code TreeFull = tree_full
error_code StackFull = stack_full
error_code AllowanceUsedUp = allowance_used_up

abbrev pub error_length : ParseError → ℕ
error_length NoTerminal = 0
error_length (Unexpected size terminal) = size
error_length (NoGroup size) = size
error_length Stuck = 0
error_length TreeFull = 0
error_length StackFull = 0
error_length AllowanceUsedUp = 0

abbrev pub error_terminal : ParseError → ℕ
error_terminal NoTerminal = 0
error_terminal (Unexpected size terminal) = terminal
error_terminal (NoGroup size) = 0
error_terminal Stuck = 0
error_terminal TreeFull = 0
error_terminal StackFull = 0
error_terminal AllowanceUsedUp = 0
