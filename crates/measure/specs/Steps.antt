-- What the parts of the printer ask for and promise each other: trees, heights and sizes. The public function's contract cites none of it.
use Rattle.std.specs.Prelude.{◌≡◌, Bool, true, false, List, [], ℕ, ◌+◌, ◌*◌, ◌-◌, ◌≤◌, min, eqb, ltb, length, get_or, take, drop, Result, Ok, Err}
use Rattle.pack.specs.Image.{first_nonterminal}
use Rattle.parse.specs.Leaf.{leaf_bytes}
use Rattle.parse.specs.Parse.{record_words}
use Rattle.print.specs.Print.{Tree, leaf, none, Standing, nothing, Taken, take_off, standing, greatest_number}
use Rattle.measure.specs.declared.Measure.{Measure}
use Rattle.measure.specs.declared.TooDeep.{TooDeep}

-- ---- the trees

-- What stands after the first n records.
abbrev pub up_to : List ℕ → List ℕ → ℕ → Standing
up_to text tree n = standing text (take (n * record_words) tree) nothing

-- So many records are there, and they are sound.
pub record Sound (text tree : List ℕ) (n : ℕ) : Type 0 where
  pub there : n * record_words ≤ length tree
  pub sound : (up_to text tree n).sound ≡ true

-- The tree that ends with record n, and the trees that stand before it.
abbrev pub tree_at : List ℕ → List ℕ → ℕ → Tree
tree_at text tree n = get_or (up_to text tree (n + 1)).trees 0 (leaf 0 [])

abbrev pub trees_before : List ℕ → List ℕ → ℕ → List Tree
trees_before text tree n = drop 1 (up_to text tree (n + 1)).trees

-- The last k trees that stand after n records, as children.
abbrev pub last_of : List ℕ → List ℕ → ℕ → ℕ → Taken
last_of text tree n k = take_off k (up_to text tree n).trees none

-- Record n as a leaf: its bytes, and the leaf.
abbrev pub bytes_of : List ℕ → List ℕ → ℕ → List ℕ
bytes_of text tree n =
    let i = n * record_words in
    leaf_bytes text (get_or tree i 0) (get_or tree (i + 1) 0) (get_or tree (i + 2) 0) (get_or tree (i + 3) 0)

abbrev pub leaf_of : List ℕ → List ℕ → ℕ → Tree
leaf_of text tree n = leaf (get_or tree (n * record_words) 0) (bytes_of text tree n)

-- From n records on the walk went back over trees: so many records are left, and these trees stand after them.
pub record Back (text tree : List ℕ) (n : ℕ) (rest : List Tree) (left : ℕ) : Type 0 where
  pub fewer : left ≤ n
  pub sound : Sound text tree left
  pub stand : (up_to text tree left).trees ≡ rest

-- ---- how many trees stand

-- After one record more, where so many stood; 0 where it is wrong.
unfoldable pub height_after : ℕ → ℕ → ℕ → ℕ
height_after first third height =
    elim (eqb first 0) [
      | true ↦ 0
      | false ↦ elim (ltb first first_nonterminal) [
        | true ↦ height + 1
        | false ↦ elim (ltb height third) [ true ↦ 0 | false ↦ height - third + 1 ]
      ]
    ]

unfoldable pub height_of : Standing → ℕ
height_of s = elim s.sound [ true ↦ length s.trees | false ↦ 0 ]

-- ---- sizes

-- A size with so much more.
abbrev pub up_by : ℕ → ℕ → ℕ
up_by size n = min (size + n) greatest_number

-- What is measured of trees: whether they are too deep; and if not, how many records are before them, and the size so far with them.
pub record Measured : Type 0 where
  pub deep : Bool
  pub left : ℕ
  pub size : ℕ

-- What the walk gives, in these words.
abbrev pub measured : Result Measure TooDeep → Measured
measured (Ok m) = record { deep = false; left = m.left; size = m.size }
measured (Err e) = record { deep = true; left = 0; size = 0 }

-- What was measured of trees that print as these bytes, are so deep, and leave these standing.
pub record Measures (text tree : List ℕ) (n levels size : ℕ) (bytes : List ℕ) (deepest : ℕ) (rest : List Tree) (r : Measured) : Type 0 where
  pub deep : r.deep ≡ ltb levels deepest
  pub grown : r.deep ≡ false → r.size ≡ up_by size (length bytes)
  pub back : r.deep ≡ false → Back text tree n rest r.left
