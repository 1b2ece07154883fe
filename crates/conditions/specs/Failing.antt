-- Manual, section 4.7: the numbers of an answer, by what the code finds.
use Rattle.std.specs.Prelude.{Result, Ok, Err}
use Rattle.numbers.specs.Codes.{wrong_shape}
use Rattle.conditions.specs.declared.Checked.{Checked}
use Rattle.conditions.specs.declared.Failing.{Failing}
use Rattle.conditions.specs.declared.Failing.TheVariants.{Word, Condition}
use Rattle.conditions.specs.Check.{passed, failed}

abbrev pub numbers_of : Result (Unit {0}) Failing → Checked
numbers_of (Ok u) = passed
numbers_of (Err (Word place)) = record { code = wrong_shape; number = place; first = 0; second = 0 }
numbers_of (Err (Condition number first second)) = failed number first second
