-- Manual, section 7: what a derivation is. The letter's words: "its records are one derivation from the start symbol by the pack's
-- productions".
use Rattle.std.specs.Prelude.{◌≡◌, List, [], ◌∷◌, ◌++◌, ℕ, ◌+◌, ◌*◌, ◌<◌}
use Rattle.pack.specs.Image.{terminals, productions, lhs, right_side, act, goto, of_nonterminal}
use Rattle.conditions.specs.Conditions.{Reduces}
use Rattle.parse.specs.Parse.{leaf_record, node_record}

-- Trees that stand side by side: their roots are these symbols, and these are the words of their records, a node after its children.
-- Each tree begins in the parse state that its root has recorded, the first in state r, and leads by a shift or a goto to the state
-- that the next one begins in; the last leads to state u. The children of a node are the right side of its production, and the first
-- of them begins where the node does. The last of them leads to a state whose row reduces by the production. On which token it does so is
-- said by Way.antt, where the text is at hand.
pub data Trees (img : List ℕ) : ℕ → List ℕ → List ℕ → ℕ → Type 0 where
  none : {r : ℕ} → Trees img r [] [] r
  leaf : {r t v u : ℕ} {symbols words : List ℕ} (start size : ℕ) → t < terminals img → act img r t ≡ 2 + 2 * v
      → Trees img v symbols words u → Trees img r (t ∷ symbols) (leaf_record t start size r ++ words) u
  node : {r p s v u : ℕ} {children symbols words : List ℕ} → p < productions img → Trees img r (right_side img p) children s
      → Reduces img s p → goto img r (lhs img p) ≡ 1 + v → Trees img v symbols words u
      → Trees img r (of_nonterminal (lhs img p) ∷ symbols) (children ++ (node_record img p r ++ words)) u

-- The stack of a parse, top first, and the words of the trees that stand on it: one tree for each state but the lowest, which is 0. It
-- begins in the state below and leads to this one. Where a parse has not come to its end, its records are such trees.
pub data Stands (img : List ℕ) : List ℕ → List ℕ → Type 0 where
  bottom : Stands img (0 ∷ []) []
  push : {u v x : ℕ} {rest words tree : List ℕ} → Stands img (u ∷ rest) words → Trees img u (x ∷ []) tree v → Stands img (v ∷ u ∷ rest) (words ++ tree)
