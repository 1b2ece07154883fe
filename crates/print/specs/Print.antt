-- Manual, section 3.6: the printout of a derivation. The words of a tree are cut into records of four, a node after its children. What
-- they stand for is one tree, or the printout is refused.
use Rattle.std.specs.Prelude.{Bool, true, false, ◌&&◌, ◌||◌, List, [], ◌∷◌, ◌++◌, ℕ, zero, suc, ◌+◌, min, max, eqb, ltb}
use Rattle.numbers.specs.Front.{Delivery, refuse, deliver}
use Rattle.pack.specs.Image.{first_nonterminal}
use Rattle.text.specs.Decimal.{decimal}
use Rattle.parse.specs.Leaf.{leaf_bytes}

-- ---- trees

-- A leaf has its terminal and its bytes, a node its production and its children from the left.
mutual
  pub data Tree : Type 0 where
    leaf : (terminal : ℕ) (bytes : List ℕ) → Tree
    node : (production : ℕ) (children : Trees) → Tree

  pub data Trees : Type 0 where
    none : Trees
    more : (first : Tree) (others : Trees) → Trees

-- The most nodes on one way down.
unfoldable mutual
  pub depth : Tree → ℕ
  depth (leaf terminal bytes) = 0
  depth (node production children) = 1 + depths children

  pub depths : Trees → ℕ
  depths none = 0
  depths (more t others) = max (depth t) (depths others)

-- ---- what is printed

-- `[`, `]` and `\`.
unfoldable pub special : ℕ → Bool
special b = eqb b 91 || (eqb b 93 || eqb b 92)

-- Each of them is preceded by `\`.
unfoldable pub escaped_byte : ℕ → List ℕ
escaped_byte b = elim (special b) [ true ↦ 92 ∷ b ∷ [] | false ↦ b ∷ [] ]

unfoldable pub escaped : List ℕ → List ℕ
escaped [] = []
escaped (b ∷ bytes) = escaped_byte b ++ escaped bytes

-- A leaf is its terminal number, `:`, and its bytes between `[` and `]`. A node is `(` and its production number, then for each child a
-- blank and the child, then `)`.
unfoldable mutual
  pub show : Tree → List ℕ
  show (leaf terminal bytes) = decimal terminal ++ (58 ∷ 91 ∷ (escaped bytes ++ (93 ∷ [])))
  show (node production children) = 40 ∷ (decimal production ++ (show_each children ++ (41 ∷ [])))

  pub show_each : Trees → List ℕ
  show_each none = []
  show_each (more t others) = 32 ∷ (show t ++ show_each others)

-- ---- the tree that records stand for

-- The trees that stand side by side after some records, the last of them first; and whether these records are sound so far.
pub record Standing : Type 0 where
  pub sound : Bool
  pub trees : List Tree

-- Before the first record there is none.
abbrev pub nothing : Standing
nothing = record { sound = true; trees = [] }

-- A record that is wrong: nothing after it mends it.
abbrev pub wrong : Standing
wrong = record { sound = false; trees = [] }

-- What a node of so many children takes: that many of the trees that stand, the last of them as its last child. The others are left.
pub record Taken : Type 0 where
  pub enough : Bool
  pub children : Trees
  pub rest : List Tree

unfoldable pub take_off : ℕ → List Tree → Trees → Taken
take_off zero trees children = record { enough = true; children = children; rest = trees }
take_off (suc n) [] children = record { enough = false; children = children; rest = [] }
take_off (suc n) (t ∷ trees) children = take_off n trees (more t children)

-- One record more. A first word of 1..63 is a leaf, 64 or more a node, whose second word is its production and whose third word counts
-- its children; 0 is neither.
unfoldable pub one_more : List ℕ → ℕ → ℕ → ℕ → ℕ → Standing → Standing
one_more text first second third fourth s =
    elim (eqb first 0) [
      | true ↦ wrong
      | false ↦ elim (ltb first first_nonterminal) [
        | true ↦ record { sound = s.sound; trees = leaf first (leaf_bytes text first second third fourth) ∷ s.trees }
        | false ↦
            let t = take_off third s.trees none in
            record { sound = s.sound && t.enough; trees = node second t.children ∷ t.rest }
      ]
    ]

-- Record by record. Fewer than four words at the end are left over.
unfoldable pub standing : List ℕ → List ℕ → Standing → Standing
standing text [] s = s
standing text (a ∷ []) s = wrong
standing text (a ∷ b ∷ []) s = wrong
standing text (a ∷ b ∷ c ∷ []) s = wrong
standing text (a ∷ b ∷ c ∷ d ∷ words) s = standing text words (one_more text a b c d s)

-- ---- the printout

-- 14: not one whole tree by the counts of children, words left over, or a first word of 0.
abbrev pub not_one_tree : ℕ
not_one_tree = 14

-- 15: more than 256 nodes on one way down.
abbrev pub too_deep : ℕ
too_deep = 15

abbrev pub most_nodes : ℕ
most_nodes = 256

-- The greatest number that can be told. A printout that is larger, which no memory holds, is told as this.
abbrev pub greatest_number : ℕ
greatest_number = 18446744073709551615

abbrev pub told : Delivery → Delivery
told d = record { answer = record { code = d.answer.code; number = min d.answer.number greatest_number }; written = d.written }

-- A tree is refused with 15, and then with 3.
unfoldable pub print_tree : Tree → ℕ → Delivery
print_tree t room = elim (ltb most_nodes (depth t)) [ true ↦ refuse too_deep 0 | false ↦ told (deliver (show t) room) ]

-- Exactly one tree stands.
unfoldable pub print_one : List Tree → ℕ → Delivery
print_one [] room = refuse not_one_tree 0
print_one (t ∷ []) room = print_tree t room
print_one (t ∷ u ∷ others) room = refuse not_one_tree 0

-- The printout of these words over this text, for a buffer of so many bytes.
unfoldable pub print : List ℕ → List ℕ → ℕ → Delivery
print text words room =
    let s = standing text words nothing in
    elim s.sound [ false ↦ refuse not_one_tree 0 | true ↦ print_one s.trees room ]
