-- Three looks that seem right are ruled out by what a right look is, on packs that pass: the longest match over all terminals, filtered
-- afterwards; a token kept across a reduction; and layout skipped before a token is looked for. The runs with them refuse a text that the
-- parse accepts. Each is one computation.
-- Assumes nothing.
use mathlib.Core.Path.{◌≡◌, refl}
use mathlib.Core.List.{List, []}
use Prim.Native.Nat.{ℕ, zero, suc, ◌<◌, ◌≤◌}
use native.Mathlib.Omega.{arith}
use lib.Count.{count_trailing_zeros}
use lib.ListN.{drop, take}
use Rattle.sets.specs.Sets.{has, meet, member, lacks, is_empty, subset, count_below, several}
use Rattle.numbers.specs.Codes.{done, no_terminal, unexpected}
use Rattle.pack.specs.Image.{set_at, least_size, greatest_size, layout, dom, lhs, len, symbol, act, goto, move, action_of, lo, hi, range_class, acc, rej, poss, group_set, chosen, class_in, valid_from}
use Rattle.rules.specs.Rules.{fits, dom_right, is_symbol, act_right, above_previous, empty_at_start, differs}
use Rattle.shape.specs.Shape.{rule, and_then, each, size_rule, length_rule, layout_rule, dom_rule, symbol_rule, prod_rule, act_rule, cell_rule, goto_rules, move_rules, range_rule, scan_rule, group_rule, parser_rules, scanner_rules, head_rules, shape}
use Rattle.scan.specs.Scan.{remember, move_on, onward, scan_from}
use Rattle.scan.specs.Token.{chosen_in, terminal_of}
use Rattle.scan.specs.Matching.{led_from, Leads, Last}
use Rattle.look.specs.declared.Spot.{Spot}
use Rattle.look.specs.Look.{Looked}
use Rattle.look.specs.Look.{seek, rescan, choose, piece, is_layout, look_on, look}
use Rattle.parse.specs.Parse.{start, reduce_by, accept, perform, step, run, parse}
use Rattle.conditions.specs.Tests.{all_below, some_below, implies, same as alike}
use Rattle.conditions.specs.Edges.{here, along, shift_of, edge_to, is_edge, leads, enters, only_on, reached}
use Rattle.conditions.specs.Edges as Edges
use Rattle.conditions.specs.Conditions.{Passes, matched, sought, outranked, k1, within, k2, is_group, settled, k3, k4, reduces, steps, ends, k5, from_start, k6}
use Rattle.conditions.specs.Check.{passed, number, firsts, seconds, test, in_row, in_rows, find, report, first_failing, check_all, check}
use Rattle.conditions.proofs.Answers.{checked_passes}
use Rattle.promise.specs.Cover.{RightLeaf, Blank, Blanks, none, more}
use Rattle.promise.specs.Refusal.{Unexpected, at_end, instead}
use Rattle.promise.specs.RightLook.{Sees, RightLook}
use Rattle.promise.specs.RightLook as Sight
use Rattle.promise.specs.Marked.{tree_of}
use Rattle.promise.specs.WrongLooks.{kept_look, filtered_piece, filtered_on, filtered_look, skip_first, token_then, layout_first_look, tiny, tiny_text, enough, kept, filtered, slashes, slashes_text, slashes_records, layout_first}

-- The pack passes, and reads the text.
tiny_checked : check tiny ≡ passed
unfolding count_trailing_zeros has member lacks is_empty subset count_below several set_at least_size greatest_size layout dom lhs len symbol act goto move action_of lo hi range_class acc rej poss group_set chosen class_in valid_from rule and_then each size_rule length_rule fits layout_rule dom_right dom_rule is_symbol symbol_rule prod_rule act_right act_rule cell_rule goto_rules move_rules above_previous range_rule empty_at_start scan_rule differs group_rule parser_rules scanner_rules head_rules shape all_below some_below implies alike shift_of edge_to is_edge leads enters only_on reached outranked k1 within k2 is_group settled k3 k4 reduces steps ends k5 from_start k6 number firsts seconds test in_row in_rows find report first_failing check_all check tiny
tiny_checked = refl

pub tiny_passes : Passes tiny
tiny_passes = checked_passes tiny tiny_checked

pub tiny_reads : (parse tiny tiny_text (tree_of 8) enough).parsed.code ≡ done
unfolding count_trailing_zeros has member lacks is_empty subset count_below several set_at least_size greatest_size layout dom lhs len symbol act goto move action_of lo hi range_class acc rej poss group_set chosen class_in valid_from rule and_then each size_rule length_rule fits layout_rule dom_right dom_rule is_symbol symbol_rule prod_rule act_right act_rule cell_rule goto_rules move_rules above_previous range_rule empty_at_start scan_rule differs group_rule parser_rules scanner_rules head_rules shape remember move_on onward scan_from chosen_in terminal_of seek rescan choose piece is_layout look_on look reduce_by accept perform step run parse tiny
tiny_reads = refl

-- With the wrong looks it is refused.
pub kept_refuses : (run tiny kept 8 start).parsed.code ≡ no_terminal
unfolding count_trailing_zeros has member lacks is_empty subset count_below several set_at least_size greatest_size layout dom lhs len symbol act goto move action_of lo hi range_class acc rej poss group_set chosen class_in valid_from rule and_then each size_rule length_rule fits layout_rule dom_right dom_rule is_symbol symbol_rule prod_rule act_right act_rule cell_rule goto_rules move_rules above_previous range_rule empty_at_start scan_rule differs group_rule parser_rules scanner_rules head_rules shape remember move_on onward scan_from chosen_in terminal_of seek rescan choose piece is_layout look_on look reduce_by accept perform step run parse kept_look tiny
kept_refuses = refl

pub filtered_refuses : (run tiny filtered 8 start).parsed.code ≡ unexpected
unfolding count_trailing_zeros has member lacks is_empty subset count_below several set_at least_size greatest_size layout dom lhs len symbol act goto move action_of lo hi range_class acc rej poss group_set chosen class_in valid_from rule and_then each size_rule length_rule fits layout_rule dom_right dom_rule is_symbol symbol_rule prod_rule act_right act_rule cell_rule goto_rules move_rules above_previous range_rule empty_at_start scan_rule differs group_rule parser_rules scanner_rules head_rules shape remember move_on onward scan_from chosen_in terminal_of seek rescan choose piece is_layout look_on look reduce_by accept perform step run parse filtered_piece filtered_on filtered_look tiny
filtered_refuses = refl

-- What a right look says where it gives a token, and where it gives 8.
seen_leaf : {img text : List ℕ} {s from : ℕ} {l : Looked} → Sees img text s from l → l.code ≡ done → 1 ≤ l.terminal
    → RightLeaf img text l.terminal l.at.place l.length s
seen_leaf (Sight.token size terminal to b r) c n = r
seen_leaf (Sight.end to b l) c n = absurd (omega arith)
seen_leaf (Sight.none to b why) c n = absurd (omega arith)
seen_leaf (Sight.other size terminal to b why) c n = absurd (omega arith)
seen_leaf (Sight.spent to b) c n = absurd (omega arith)

seen_other : {img text : List ℕ} {s from : ℕ} {l : Looked} → Sees img text s from l → l.code ≡ unexpected
    → Unexpected img text s l.at.place l.length l.terminal
seen_other (Sight.token size terminal to b r) c = absurd (omega arith)
seen_other (Sight.end to b l) c = absurd (omega arith)
seen_other (Sight.none to b why) c = absurd (omega arith)
seen_other (Sight.other size terminal to b why) c = why
seen_other (Sight.spent to b) c = absurd (omega arith)

-- The leaf `a` is not right in state 2, since `ab` is valid there.
no_a_in_ab : RightLeaf tiny tiny_text 2 1 1 2 → ⊥
unfolding tiny set_at layout move lo hi range_class class_in acc rej act valid_from led_from
no_a_in_ab r = let z : ◌≡◌ {A = ℕ} 8 0 = r.right.last.after 2 3 (omega arith) (omega arith) (record { way = refl }) in omega arith

pub kept_is_wrong : {Fits : ℕ → Spot → Type 0} → RightLook tiny tiny_text Fits kept → ⊥
unfolding count_trailing_zeros has member is_empty count_below several set_at layout lhs len act goto move action_of lo hi range_class acc rej poss group_set chosen class_in valid_from remember move_on onward scan_from chosen_in terminal_of seek rescan choose piece is_layout look_on look kept_look tiny
kept_is_wrong right =
    let x = right.shifts 0 1 start.at (omega arith) right.begins refl refl in
    let a = right.reduces 1 2 0 2 _ (omega arith) x refl refl (along here (Edges.shifts {t = 1} (omega arith) (omega arith) refl)) refl in
    no_a_in_ab (seen_leaf (right.sees 2 _ (omega arith) a) refl (omega arith))

-- In state 1 `a` matches, so 8 is not due there.
last_a : Last tiny (drop 1 tiny_text) (sought tiny 1) 1 2
unfolding tiny set_at layout move lo hi range_class class_in acc rej act valid_from led_from
last_a = record { within = omega arith; leads = record { way = refl }; here = λ z. omega arith; after = λ m p l w k. go m p l w k }
  where
    go : (m p : ℕ) → 1 < m → m ≤ 2 → Leads tiny (take m (drop 1 tiny_text)) p → meet (matched tiny p) (sought tiny 1) ≡ 0
    go zero p l w k = absurd (omega arith)
    go (suc zero) p l w k = absurd (omega arith)
    go (suc (suc zero)) p l w k = let y : 4 ≡ suc p = k.way in let z : p ≡ 3 = omega arith in rw z refl
    go (suc (suc (suc m))) p l w k = absurd (omega arith)

not_due : {size terminal : ℕ} → 1 ≤ size → Unexpected tiny tiny_text 1 1 size terminal → ⊥
unfolding tiny set_at layout acc act valid_from
not_due l (at_end e c i) = omega arith
not_due l (instead n t q b w last h i j k) = let z : ◌≡◌ {A = ℕ} 4 0 = w.only_rejects 1 2 last_a in omega arith

pub filtered_is_wrong : {Fits : ℕ → Spot → Type 0} → RightLook tiny tiny_text Fits filtered → ⊥
unfolding count_trailing_zeros has member is_empty count_below several set_at layout lhs len act goto move action_of lo hi range_class acc rej poss group_set chosen class_in valid_from remember move_on onward scan_from chosen_in terminal_of seek rescan choose piece is_layout look_on look filtered_piece filtered_on filtered_look tiny
filtered_is_wrong right =
    let x = right.shifts 0 1 start.at (omega arith) right.begins refl refl in
    not_due (omega arith) (seen_other (right.sees 1 _ (omega arith) x) refl)

-- A comment and an operator begin alike. The pack passes, and reads two operators and the comment between them.
slashes_checked : check slashes ≡ passed
unfolding count_trailing_zeros has member lacks is_empty subset count_below several set_at least_size greatest_size layout dom lhs len symbol act goto move action_of lo hi range_class acc rej poss group_set chosen class_in valid_from rule and_then each size_rule length_rule fits layout_rule dom_right dom_rule is_symbol symbol_rule prod_rule act_right act_rule cell_rule goto_rules move_rules above_previous range_rule empty_at_start scan_rule differs group_rule parser_rules scanner_rules head_rules shape all_below some_below implies alike shift_of edge_to is_edge leads enters only_on reached outranked k1 within k2 is_group settled k3 k4 reduces steps ends k5 from_start k6 number firsts seconds test in_row in_rows find report first_failing check_all check slashes
slashes_checked = refl

pub slashes_passes : Passes slashes
slashes_passes = checked_passes slashes slashes_checked

pub slashes_reads : parse slashes slashes_text (tree_of 8) enough
    ≡ record { parsed = record { code = done; place = 10; length = 0; terminal = 0; records = 3; moves = 10 }; words = slashes_records }
unfolding count_trailing_zeros has member lacks is_empty subset count_below several set_at least_size greatest_size layout dom lhs len symbol act goto move action_of lo hi range_class acc rej poss group_set chosen class_in valid_from rule and_then each size_rule length_rule fits layout_rule dom_right dom_rule is_symbol symbol_rule prod_rule act_right act_rule cell_rule goto_rules move_rules above_previous range_rule empty_at_start scan_rule differs group_rule parser_rules scanner_rules head_rules shape remember move_on onward scan_from chosen_in terminal_of seek rescan choose piece is_layout look_on look reduce_by accept perform step run parse slashes
slashes_reads = refl

-- Where layout is skipped first, the operator is never seen.
pub layout_first_refuses : run slashes layout_first 8 start
    ≡ record { parsed = record { code = no_terminal; place = 2; length = 0; terminal = 0; records = 0; moves = 3 }; words = [] }
unfolding count_trailing_zeros has member lacks is_empty subset count_below several set_at least_size greatest_size layout dom lhs len symbol act goto move action_of lo hi range_class acc rej poss group_set chosen class_in valid_from rule and_then each size_rule length_rule fits layout_rule dom_right dom_rule is_symbol symbol_rule prod_rule act_right act_rule cell_rule goto_rules move_rules above_previous range_rule empty_at_start scan_rule differs group_rule parser_rules scanner_rules head_rules shape remember move_on onward scan_from chosen_in terminal_of seek rescan choose piece is_layout look_on look reduce_by accept perform step run parse skip_first token_then layout_first_look slashes
layout_first_refuses = refl

seen_blanks : {img text : List ℕ} {s from : ℕ} {l : Looked} → Sees img text s from l → Blanks img text s from l.at.place
seen_blanks (Sight.token size terminal to b r) = b
seen_blanks (Sight.end to b l) = b
seen_blanks (Sight.none to b why) = b
seen_blanks (Sight.other size terminal to b why) = b
seen_blanks (Sight.spent to b) = b

-- Two slashes at the start are no piece of layout that is skipped in state 0, since the operator matches on reading on; nor is one.
no_comment : (size : ℕ) → size ≤ 2 → Blank slashes slashes_text 0 0 size → ⊥
unfolding slashes set_at layout move lo hi range_class class_in acc rej act valid_from led_from
no_comment size h b = let z : ◌≡◌ {A = ℕ} 2 0 = b.right.last.after 3 3 (omega arith) (omega arith) (record { way = refl }) in omega arith

none_skipped : {n : ℕ} → Blanks slashes slashes_text 0 0 n → 1 ≤ n → n ≤ 2 → ⊥
none_skipped none l h = omega arith
none_skipped (more {place = zero} size b blank) l h = no_comment size (omega arith) blank
none_skipped (more {place = suc place} size b blank) l h = none_skipped b (omega arith) (omega arith)

pub layout_first_is_wrong : {Fits : ℕ → Spot → Type 0} → RightLook slashes slashes_text Fits layout_first → ⊥
unfolding count_trailing_zeros has is_empty count_below several set_at layout act move action_of lo hi range_class acc rej poss group_set chosen class_in valid_from remember move_on onward scan_from chosen_in terminal_of seek rescan choose skip_first token_then layout_first_look slashes
layout_first_is_wrong right = none_skipped (seen_blanks (right.sees 0 start.at (omega arith) right.begins)) (omega arith) (omega arith)
