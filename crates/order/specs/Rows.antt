-- Manual, section 1.6: the rule of a row by its table, for the tables that are walked row by row where a quick pass says no. `shape` does not
-- use this file.
use Rattle.std.specs.Prelude.{List, ℕ}
use Rattle.numbers.specs.Verdicts.{Verdict}
use Rattle.order.specs.declared.Ruled.{Ruled}
use Rattle.order.specs.declared.Ruled.TheVariants.{Dom, Act, Scan}
use Rattle.pack.specs.Image.{terminals, states, scan_states}
use Rattle.order.specs.Shape.{each, dom_rule, act_rule, scan_rule}

unfoldable pub row_rule : List ℕ → Ruled → ℕ → Verdict
row_rule img Dom i = dom_rule img i
row_rule img Act i = each (act_rule img i) (terminals img) 0
row_rule img Scan i = scan_rule img i

unfoldable pub rows_of : List ℕ → Ruled → ℕ
rows_of img Dom = terminals img
rows_of img Act = states img
rows_of img Scan = scan_states img
