-- Manual, section 5.1: the codes by name, in the order of their numbers, and the limits that they guard.
use Rattle.std.specs.Prelude.{ℕ}

-- 0: done.
abbrev pub done : ℕ
done = 0

-- 1: the pack text is not of the form.
abbrev pub not_the_form : ℕ
not_the_form = 1

-- 2: the pack text is over 65,535 bytes.
abbrev pub text_too_long : ℕ
text_too_long = 2

-- 3: the room is too small for the output.
abbrev pub room_too_small : ℕ
room_too_small = 3

-- 4: the shape is wrong.
abbrev pub wrong_shape : ℕ
wrong_shape = 4

-- 5: a condition of the check fails.
abbrev pub check_fails : ℕ
check_fails = 5

-- 6: the query is over 65,535 bytes.
abbrev pub query_too_long : ℕ
query_too_long = 6

-- 7: no terminal matches.
abbrev pub no_terminal : ℕ
no_terminal = 7

-- 8: an unexpected terminal.
abbrev pub unexpected : ℕ
unexpected = 8

-- 9: several terminals, and no group.
abbrev pub no_group : ℕ
no_group = 9

-- 10: stuck.
abbrev pub stuck : ℕ
stuck = 10

-- 11: the tree room is used up.
abbrev pub tree_full : ℕ
tree_full = 11

-- 12: the stack is full.
abbrev pub stack_full : ℕ
stack_full = 12

-- 13: the allowance is used up.
abbrev pub allowance_used_up : ℕ
allowance_used_up = 13

-- The most moves that a caller can allow.
abbrev pub greatest_allowance : ℕ
greatest_allowance = 4294967295

-- The bytes of the longest text, a pack text as well as a query.
abbrev pub longest_text : ℕ
longest_text = 65535

-- The most records that a tree has room for, however long it is.
abbrev pub most_records : ℕ
most_records = 65535

-- The most states that the stack holds.
abbrev pub most_states : ℕ
most_states = 512
