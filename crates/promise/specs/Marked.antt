-- Manual, section 6.3: the twelve marked cases with their variants, and the run of `tax by day`, as one table.
-- proofs/Marked.antt proves it by one computed test.
use Rattle.std.specs.Prelude.{Bool, true, false, List, [], ◌∷◌, ◌++◌, ℕ, ◌+◌, ◌*◌, ◌-◌, eqb, length, replicate}
use Rattle.text.specs.Bytes.{bytes}
use Rattle.numbers.specs.Codes.{greatest_allowance}
use Rattle.records.specs.declared.Parsed.{Parsed}
use Rattle.parse.specs.Parse.{parse, tree_after}
use Rattle.conditions.specs.declared.Checked.{Checked}
use Rattle.conditions.specs.Check.{check}
use Rattle.promise.specs.SmallPack.{small, small11, small12, small12too}

-- A parse of a text by a pack, with a tree of so many records and an allowance, gives code, place, length, terminal, records and
-- moves; it leaves these words of records at the front of the tree and the rest as it was; the check of a pack gives its code and three numbers.
pub data Case : Type 0 where
  parses : (pack text : List ℕ) (room allowance : ℕ) (gives : List ℕ) → Case
  leaves : (pack text : List ℕ) (room allowance : ℕ) (words : List ℕ) → Case
  checks : (pack gives : List ℕ) → Case

-- "with ample room".
abbrev pub ample : ℕ
ample = 8

unfoldable pub cases : List Case
cases =
    -- 1 to 8
    parses small (bytes "tax") ample greatest_allowance (0 ∷ 3 ∷ 0 ∷ 0 ∷ 2 ∷ 3 ∷ []) ∷
    parses small (bytes "bye") ample greatest_allowance (0 ∷ 3 ∷ 0 ∷ 0 ∷ 2 ∷ 3 ∷ []) ∷
    parses small (bytes "by") ample greatest_allowance (8 ∷ 0 ∷ 2 ∷ 1 ∷ 0 ∷ 4 ∷ []) ∷
    parses small (bytes "") ample greatest_allowance (8 ∷ 0 ∷ 0 ∷ 0 ∷ 0 ∷ 0 ∷ []) ∷
    parses small (bytes "7") ample greatest_allowance (7 ∷ 0 ∷ 0 ∷ 0 ∷ 0 ∷ 0 ∷ []) ∷
    parses small (bytes "tax day") ample greatest_allowance (8 ∷ 4 ∷ 3 ∷ 2 ∷ 1 ∷ 8 ∷ []) ∷
    parses small (bytes "tax by") ample greatest_allowance (8 ∷ 6 ∷ 0 ∷ 0 ∷ 2 ∷ 6 ∷ []) ∷
    parses small (bytes " ") ample greatest_allowance (8 ∷ 1 ∷ 0 ∷ 0 ∷ 0 ∷ 1 ∷ []) ∷
    -- 9: "its allowance becomes 2 for the refusal and 3 for done"
    parses small (bytes "tax") ample 2 (13 ∷ 0 ∷ 0 ∷ 0 ∷ 0 ∷ 2 ∷ []) ∷
    parses small (bytes "tax") ample 3 (0 ∷ 3 ∷ 0 ∷ 0 ∷ 2 ∷ 3 ∷ []) ∷
    -- 10: "room 1"
    parses small (bytes "tax") 1 greatest_allowance (11 ∷ 3 ∷ 0 ∷ 0 ∷ 1 ∷ 3 ∷ []) ∷
    -- 11: "check gives 5 with K5, state 1, production 0"
    checks small11 (5 ∷ 5 ∷ 1 ∷ 0 ∷ []) ∷
    parses small11 (bytes "tax") ample greatest_allowance (10 ∷ 3 ∷ 0 ∷ 0 ∷ 1 ∷ 3 ∷ []) ∷
    -- 12: "K1 at 2"
    checks small12 (5 ∷ 1 ∷ 2 ∷ 0 ∷ []) ∷
    parses small12too (bytes "tax by by") ample greatest_allowance (9 ∷ 7 ∷ 2 ∷ 0 ∷ 2 ∷ 9 ∷ []) ∷
    -- "it passes"
    checks small (0 ∷ 0 ∷ 0 ∷ 0 ∷ []) ∷
    -- what `readq` prints for `tax by day`
    parses small (bytes "tax by day") 6000 greatest_allowance (0 ∷ 10 ∷ 0 ∷ 0 ∷ 4 ∷ 10 ∷ []) ∷
    leaves small (bytes "tax by day") ample greatest_allowance (2 ∷ 0 ∷ 3 ∷ 0 ∷ 1 ∷ 4 ∷ 2 ∷ 1 ∷ 2 ∷ 7 ∷ 3 ∷ 2 ∷ 64 ∷ 1 ∷ 3 ∷ 0 ∷ []) ∷ []

-- Two lists of numbers are the same.
unfoldable pub same : List ℕ → List ℕ → Bool
same [] [] = true
same [] (y ∷ ys) = false
same (x ∷ xs) [] = false
same (x ∷ xs) (y ∷ ys) = elim (eqb x y) [ true ↦ same xs ys | false ↦ false ]

-- The numbers given back, in the order of the marked cases.
unfoldable pub of_parse : Parsed → List ℕ
of_parse p = p.code ∷ p.place ∷ p.length ∷ p.terminal ∷ p.records ∷ p.moves ∷ []

unfoldable pub of_check : Checked → List ℕ
of_check c = c.code ∷ c.number ∷ c.first ∷ c.second ∷ []

-- A tree with room for so many records, three words over, each of them 7.
abbrev pub tree_of : ℕ → List ℕ
tree_of room = replicate (room * 4 + 3) 7

unfoldable pub right : Case → Bool
right (parses pack text room allowance gives) = same (of_parse (parse pack text (tree_of room) allowance).parsed) gives
right (leaves pack text room allowance words) =
    same (tree_after (tree_of room) (parse pack text (tree_of room) allowance)) (words ++ replicate (room * 4 + 3 - length words) 7)
right (checks pack gives) = same (of_check (check pack)) gives

unfoldable pub all_right : List Case → Bool
all_right [] = true
all_right (c ∷ rest) = elim (right c) [ true ↦ all_right rest | false ↦ false ]
