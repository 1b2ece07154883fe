-- Sizes that are counted up to the greatest number. Assumes nothing.
use mathlib.Core.Path.{◌≡◌, ap, ◌∙◌}
use mathlib.Core.List.{List, [], ◌∷◌, ◌++◌}
use Prim.Native.Nat.{ℕ, ◌+◌, ◌/◌, ◌%◌, ◌<◌, ◌≤◌}
use native.Mathlib.Omega.{arith}
use lib.ListN.{length, length-append}
use Rattle.text.specs.Decimal.{decimal}
use Rattle.text.proofs.Decimal.{decimal_one, decimal_more}
use Rattle.print.specs.Print.{leaf, node, Trees, escaped, show, show_each}
use Rattle.measure.specs.Steps.{up_by}

-- ---- the digits of a number
module _ (size n : ℕ) where
  pub number_last : {r : ℕ} → n < 10 → r ≡ up_by size 1 → r ≡ up_by size (length (decimal n))
  number_last h e = rw (decimal_one n h) e

  pub number_more : {s r : ℕ} → 10 ≤ n → s ≡ up_by size 1 → r ≡ up_by s (length (decimal (n / 10))) → r ≡ up_by size (length (decimal n))
  number_more h e f =
      let z = ap length (decimal_more n h) ∙ length-append (decimal (n / 10)) ((48 + n % 10) ∷ []) in
      omega (arith, e, f, z)

-- ---- leaves and nodes
pub leaf_size : (t : ℕ) (bytes : List ℕ) → length (show (leaf t bytes)) ≡ length (escaped bytes) + length (decimal t) + 3
unfolding show
leaf_size t bytes =
    length-append (decimal t) (58 ∷ 91 ∷ (escaped bytes ++ (93 ∷ []))) ∙ omega (arith, length-append (escaped bytes) (93 ∷ []))

pub node_size : (p : ℕ) (children : Trees) → length (show (node p children)) ≡ length (decimal p) + length (show_each children) + 2
unfolding show
node_size p children = omega (arith, length-append (decimal p) (show_each children ++ (41 ∷ [])), length-append (show_each children) (41 ∷ []))

pub leaf_sized : (size t : ℕ) (bytes : List ℕ) {n a b r : ℕ} → n ≡ length (escaped bytes) → a ≡ up_by size n → b ≡ up_by a (length (decimal t)) → r ≡ up_by b 3
    → r ≡ up_by size (length (show (leaf t bytes)))
leaf_sized size t bytes en ea eb er = omega (arith, en, ea, eb, er, leaf_size t bytes)
