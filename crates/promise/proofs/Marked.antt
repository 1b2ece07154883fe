-- The table of marked cases holds, and the small pack's text and image give back each other: each is one computation of the
-- definitions. Assumes nothing.
use mathlib.Core.Path.{◌≡◌, refl}
use mathlib.Core.List.{[]}
use lib.Dec.{T}
use lib.Count.{count_trailing_zeros}
use lib.ListN.{length}
use Rattle.sets.specs.Sets.{has, member, lacks, is_empty, subset, count_below, several}
use Rattle.pack.specs.Image.{set_at, least_size, greatest_size, layout, dom, lhs, len, symbol, act, goto, move, action_of, lo, hi, range_class, acc, rej, poss, group_set, chosen, class_in, valid_from}
use Rattle.rules.specs.Rules.{fits, dom_right, is_symbol, act_right, above_previous, empty_at_start, differs}
use Rattle.shape.specs.Shape.{rule, and_then, each, size_rule, length_rule, layout_rule, dom_rule, symbol_rule, prod_rule, act_rule, cell_rule, goto_rules, move_rules, range_rule, scan_rule, group_rule, parser_rules, scanner_rules, head_rules, shape}
use Rattle.scan.specs.Scan.{remember, move_on, onward, scan_from}
use Rattle.scan.specs.Token.{chosen_in, terminal_of}
use Rattle.look.specs.Look.{seek, rescan, choose, piece, is_layout, look_on, look}
use Rattle.parse.specs.Parse.{reduce_by, accept, perform, step, run, parse}
use Rattle.conditions.specs.Tests.{all_below, some_below, implies, same as alike}
use Rattle.conditions.specs.Edges.{shift_of, edge_to, is_edge, leads, enters, only_on, reached}
use Rattle.conditions.specs.Conditions.{outranked, k1, within, k2, is_group, settled, k3, k4, reduces, steps, ends, k5, from_start, k6}
use Rattle.conditions.specs.Check.{number, firsts, seconds, test, in_row, in_rows, find, report, first_failing, check_all, check}
use Rattle.text.specs.Decimal.{is_digit, digits_from, number_in, read_number, decimal_in, decimal}
use Rattle.text.specs.Fields.{hex_digit, hex_from, read_set, read_field, words_of, hex_of, hex_word, field_text}
use Rattle.text.specs.declared.Form.TheVariants.{One, Two}
use Rattle.text.specs.Form.{after, before, column_text, cells_in, pack_line, sizes, tables_of, row_width}
use Rattle.text.specs.Reader.{then_read, expect, field_then, read_fields, read_code, read_cell, read_cells, zeros, read_symbols, read_row, then_lines, as_line, read_lines, read_tables, limited, read_head, ended, read_in, form_of, read_all, all}
use Rattle.text.specs.Writer.{fields_text, cells_text, row_text, lines_text, tables_text, text_of}
use Rattle.promise.specs.SmallPack.{small, small11, small12, small12too, joined, small_text, small_text2}
use Rattle.promise.specs.Marked.{cases, same, of_parse, of_check, right, all_right}

-- Every marked case, variant and check.
pub marked : T (all_right cases)
unfolding count_trailing_zeros has member lacks is_empty subset count_below several set_at least_size greatest_size layout dom lhs len symbol act goto move action_of lo hi range_class acc rej poss group_set chosen class_in valid_from rule and_then each size_rule length_rule fits layout_rule dom_right dom_rule is_symbol symbol_rule prod_rule act_right act_rule cell_rule goto_rules move_rules above_previous range_rule empty_at_start scan_rule differs group_rule parser_rules scanner_rules head_rules shape remember move_on onward scan_from chosen_in terminal_of seek rescan choose piece is_layout look_on look reduce_by accept perform step run parse all_below some_below implies alike shift_of edge_to is_edge leads enters only_on reached outranked k1 within k2 is_group settled k3 k4 reduces steps ends k5 from_start k6 number firsts seconds test in_row in_rows find report first_failing check_all check small small11 small12 small12too cases same of_parse of_check right all_right
marked = tt

-- "Its image has 189 words".
pub words : length small ≡ 189
unfolding small
words = refl

-- The writer's text of the image is the pack's text, and reading it gives the image, in either form.
pub written : text_of One small ≡ small_text
unfolding is_digit digits_from number_in read_number hex_digit hex_from read_set read_field words_of decimal_in decimal hex_of hex_word field_text after pack_line sizes tables_of cells_in row_width fields_text row_text lines_text tables_text text_of small joined small_text
written = refl

pub read_back : read_all small_text ≡ all small []
unfolding set_at least_size greatest_size rule each size_rule is_digit digits_from number_in read_number hex_digit hex_from read_set read_field words_of decimal_in decimal hex_of hex_word field_text after pack_line sizes tables_of cells_in row_width then_read expect field_then read_fields zeros read_symbols read_row then_lines as_line read_lines read_tables limited read_head ended read_in form_of read_all small joined small_text
read_back = refl

pub written2 : text_of Two small ≡ small_text2
unfolding is_digit digits_from number_in read_number hex_digit hex_from read_set read_field words_of decimal_in decimal hex_of hex_word field_text after pack_line sizes tables_of before column_text cells_in row_width fields_text cells_text row_text lines_text tables_text text_of small joined small_text2
written2 = refl

pub read_back2 : read_all small_text2 ≡ all small []
unfolding set_at least_size greatest_size rule each size_rule is_digit digits_from number_in read_number hex_digit hex_from read_set read_field words_of decimal_in decimal hex_of hex_word field_text after pack_line sizes tables_of before column_text cells_in row_width then_read expect field_then read_fields read_code read_cell read_cells zeros read_symbols read_row then_lines as_line read_lines read_tables limited read_head ended read_in form_of read_all small joined small_text2
read_back2 = refl
