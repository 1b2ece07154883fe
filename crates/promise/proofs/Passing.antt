-- The small pack passes the check: by computing it, and by what the check decides. Assumes nothing.
use mathlib.Core.Path.{◌≡◌, refl}
use Rattle.sets.specs.Sets.{has, member, lacks, is_empty, subset, count_below, several}
use Rattle.pack.specs.Image.{set_at, least_size, greatest_size, layout, dom, lhs, len, symbol, act, goto, move, action_of, lo, hi, range_class, acc, rej, poss, group_set, chosen, class_in, valid_from}
use Rattle.rules.specs.Rules.{fits, dom_right, is_symbol, act_right, above_previous, empty_at_start, differs}
use Rattle.shape.specs.Shape.{rule, and_then, each, size_rule, length_rule, layout_rule, dom_rule, symbol_rule, prod_rule, act_rule, cell_rule, goto_rules, move_rules, range_rule, scan_rule, group_rule, parser_rules, scanner_rules, head_rules, shape}
use Rattle.conditions.specs.Tests.{all_below, some_below, implies, same}
use Rattle.conditions.specs.Edges.{shift_of, edge_to, is_edge, leads, enters, only_on, reached}
use Rattle.conditions.specs.Conditions.{Passes, outranked, k1, within, k2, is_group, settled, k3, k4, reduces, steps, ends, k5, from_start, k6}
use Rattle.conditions.specs.Check.{passed, number, firsts, seconds, test, in_row, in_rows, find, report, first_failing, check_all, check}
use Rattle.conditions.proofs.Answers.{checked_passes}
use Rattle.promise.specs.SmallPack.{small}

small_checked : check small ≡ passed
unfolding has member lacks is_empty subset count_below several set_at least_size greatest_size layout dom lhs len symbol act goto move action_of lo hi range_class acc rej poss group_set chosen class_in valid_from rule and_then each size_rule length_rule fits layout_rule dom_right dom_rule is_symbol symbol_rule prod_rule act_right act_rule cell_rule goto_rules move_rules above_previous range_rule empty_at_start scan_rule differs group_rule parser_rules scanner_rules head_rules shape all_below some_below implies same shift_of edge_to is_edge leads enters only_on reached outranked k1 within k2 is_group settled k3 k4 reduces steps ends k5 from_start k6 number firsts seconds test in_row in_rows find report first_failing check_all check small
small_checked = refl

pub small_passes : Passes small
small_passes = checked_passes small small_checked
