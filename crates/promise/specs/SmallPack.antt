-- Manual, section 6.1: the small pack. `by` outranks names; blanks are layout; S is `name` or `name by name`.
-- Terminals: 0 the end, 1 `by`, 2 a name, 3 blanks. A line of words for each line of the text.
use Rattle.std.specs.Prelude.{List, [], ◌∷◌, ◌++◌, ℕ, ◌+◌, set}
use Rattle.pack.specs.Image.{act_at, goto_at, scan_at}
use Rattle.text.specs.Bytes.{bytes}

-- The 189 words of its image.
unfoldable pub small : List ℕ
small =
    1 ∷
    4 ∷ 1 ∷ 2 ∷ 5 ∷ 5 ∷ 5 ∷ 6 ∷ 0 ∷
    8 ∷ 0 ∷ 0 ∷ 0 ∷
    0 ∷ 0 ∷ 0 ∷ 0 ∷
    0 ∷ 0 ∷ 0 ∷ 0 ∷
    2 ∷ 0 ∷ 0 ∷ 0 ∷
    0 ∷ 0 ∷ 0 ∷ 0 ∷
    0 ∷ 1 ∷ 2 ∷ 0 ∷ 0 ∷ 0 ∷ 0 ∷ 0 ∷ 0 ∷ 0 ∷ 0 ∷ 0 ∷ 0 ∷ 0 ∷ 0 ∷ 0 ∷
    0 ∷ 3 ∷ 2 ∷ 1 ∷ 2 ∷ 0 ∷ 0 ∷ 0 ∷ 0 ∷ 0 ∷ 0 ∷ 0 ∷ 0 ∷ 0 ∷ 0 ∷ 0 ∷
    0 ∷ 0 ∷ 4 ∷ 0 ∷
    3 ∷ 6 ∷ 0 ∷ 0 ∷
    0 ∷ 0 ∷ 8 ∷ 0 ∷
    5 ∷ 0 ∷ 0 ∷ 0 ∷
    1 ∷ 0 ∷ 0 ∷ 0 ∷
    5 ∷
    0 ∷
    0 ∷
    0 ∷
    0 ∷
    32 ∷ 32 ∷ 4 ∷
    97 ∷ 97 ∷ 3 ∷
    98 ∷ 98 ∷ 1 ∷
    99 ∷ 120 ∷ 3 ∷
    121 ∷ 121 ∷ 2 ∷
    122 ∷ 122 ∷ 3 ∷
    0 ∷ 2 ∷ 4 ∷ 4 ∷ 5 ∷
    0 ∷ 4 ∷ 3 ∷ 4 ∷ 0 ∷
    0 ∷ 4 ∷ 4 ∷ 4 ∷ 0 ∷
    0 ∷ 4 ∷ 4 ∷ 4 ∷ 0 ∷
    0 ∷ 0 ∷ 0 ∷ 0 ∷ 5 ∷
    0 ∷ 0 ∷ 0 ∷ 0 ∷ 0 ∷ 0 ∷ 0 ∷ 0 ∷ 14 ∷ 0 ∷ 0 ∷ 0 ∷
    4 ∷ 0 ∷ 0 ∷ 0 ∷ 0 ∷ 0 ∷ 0 ∷ 0 ∷ 6 ∷ 0 ∷ 0 ∷ 0 ∷
    2 ∷ 0 ∷ 0 ∷ 0 ∷ 4 ∷ 0 ∷ 0 ∷ 0 ∷ 6 ∷ 0 ∷ 0 ∷ 0 ∷
    4 ∷ 0 ∷ 0 ∷ 0 ∷ 0 ∷ 0 ∷ 0 ∷ 0 ∷ 4 ∷ 0 ∷ 0 ∷ 0 ∷
    8 ∷ 0 ∷ 0 ∷ 0 ∷ 0 ∷ 0 ∷ 0 ∷ 0 ∷ 8 ∷ 0 ∷ 0 ∷ 0 ∷ []

-- One list after the other.
unfoldable pub joined : List (List ℕ) → List ℕ
joined [] = []
joined (line ∷ lines) = line ++ joined lines

-- Its text.
unfoldable pub small_text : List ℕ
small_text =
    joined
    (bytes "pack=1\n" ∷
    bytes "size=4,1,2,5,5,5,6,0\n" ∷
    bytes "layout=0000000000000008\n" ∷
    bytes "dom=0000000000000000\n" ∷
    bytes "dom=0000000000000000\n" ∷
    bytes "dom=0000000000000002\n" ∷
    bytes "dom=0000000000000000\n" ∷
    bytes "prod=0,1,2\n" ∷
    bytes "prod=0,3,2,1,2\n" ∷
    bytes "act=0,0,4,0\n" ∷
    bytes "act=3,6,0,0\n" ∷
    bytes "act=0,0,8,0\n" ∷
    bytes "act=5,0,0,0\n" ∷
    bytes "act=1,0,0,0\n" ∷
    bytes "goto=5\n" ∷
    bytes "goto=0\n" ∷
    bytes "goto=0\n" ∷
    bytes "goto=0\n" ∷
    bytes "goto=0\n" ∷
    bytes "class=32,32,4\n" ∷
    bytes "class=97,97,3\n" ∷
    bytes "class=98,98,1\n" ∷
    bytes "class=99,120,3\n" ∷
    bytes "class=121,121,2\n" ∷
    bytes "class=122,122,3\n" ∷
    bytes "move=0,2,4,4,5\n" ∷
    bytes "move=0,4,3,4,0\n" ∷
    bytes "move=0,4,4,4,0\n" ∷
    bytes "move=0,4,4,4,0\n" ∷
    bytes "move=0,0,0,0,5\n" ∷
    bytes "scan=0000000000000000,0000000000000000,000000000000000e\n" ∷
    bytes "scan=0000000000000004,0000000000000000,0000000000000006\n" ∷
    bytes "scan=0000000000000002,0000000000000004,0000000000000006\n" ∷
    bytes "scan=0000000000000004,0000000000000000,0000000000000004\n" ∷
    bytes "scan=0000000000000008,0000000000000000,0000000000000008\n" ∷ [])

-- The same in form 2.
unfoldable pub small_text2 : List ℕ
small_text2 =
    joined
    (bytes "pack=2\n" ∷
    bytes "size=4,1,2,5,5,5,6,0\n" ∷
    bytes "layout=0000000000000008\n" ∷
    bytes "dom=0000000000000000\n" ∷
    bytes "dom=0000000000000000\n" ∷
    bytes "dom=0000000000000002\n" ∷
    bytes "dom=0000000000000000\n" ∷
    bytes "prod=0,1,2\n" ∷
    bytes "prod=0,3,2,1,2\n" ∷
    bytes "act=2:4\n" ∷
    bytes "act=0:3,1:6\n" ∷
    bytes "act=2:8\n" ∷
    bytes "act=0:5\n" ∷
    bytes "act=0:1\n" ∷
    bytes "goto=0:5\n" ∷
    bytes "goto=\n" ∷
    bytes "goto=\n" ∷
    bytes "goto=\n" ∷
    bytes "goto=\n" ∷
    bytes "class=32,32,4\n" ∷
    bytes "class=97,97,3\n" ∷
    bytes "class=98,98,1\n" ∷
    bytes "class=99,120,3\n" ∷
    bytes "class=121,121,2\n" ∷
    bytes "class=122,122,3\n" ∷
    bytes "move=1:2,2:4,3:4,4:5\n" ∷
    bytes "move=1:4,2:3,3:4\n" ∷
    bytes "move=1:4,2:4,3:4\n" ∷
    bytes "move=1:4,2:4,3:4\n" ∷
    bytes "move=4:5\n" ∷
    bytes "scan=0000000000000000,0000000000000000,000000000000000e\n" ∷
    bytes "scan=0000000000000004,0000000000000000,0000000000000006\n" ∷
    bytes "scan=0000000000000002,0000000000000004,0000000000000006\n" ∷
    bytes "scan=0000000000000004,0000000000000000,0000000000000004\n" ∷
    bytes "scan=0000000000000008,0000000000000000,0000000000000008\n" ∷ [])

-- Case 11: "First goto row 0".
unfoldable pub small11 : List ℕ
small11 = set small (goto_at small 0 0) 0

-- Case 12: "Scan state 2 as 6,0,6", and "with act row 2 as 0,8,8,0 too".
unfoldable pub small12 : List ℕ
small12 = set (set small (scan_at small 2) 6) (scan_at small 2 + 4) 0

unfoldable pub small12too : List ℕ
small12too = set small12 (act_at small 2 1) 8
