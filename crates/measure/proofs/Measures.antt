-- The turns of the walks over a node and over children, as they measure. Assumes nothing.
use mathlib.Core.Path.{◌≡◌, refl, sym, ap, ◌∙◌}
use mathlib.Core.Bool.{Bool, true, false}
use mathlib.Core.List.{List, []}
use Prim.Native.Nat.{ℕ, ◌+◌, ◌*◌, ◌-◌, ◌<◌, ◌≤◌, max}
use native.Mathlib.Omega.{arith}
use lib.Dec.{ltb}
use lib.ListN.{length, get_or, length-append}
use borrow.Author.Tests.{lt-ltb, le-ltb, ltb-true, ltb-false}
use Rattle.pack.specs.Image.{first_nonterminal}
use Rattle.parse.specs.Parse.{record_words}
use Rattle.text.specs.Decimal.{decimal}
use Rattle.print.specs.Print.{Tree, leaf, node, Trees, none, more, depth, depths, show, show_each, Taken}
use Rattle.print.proofs.Records.{false-true}
use Rattle.print.proofs.Taken.{take_deeper}
use Rattle.measure.specs.Steps.{Sound, tree_at, trees_before, last_of, leaf_of, up_by, Measured, Measures}
use Rattle.measure.proofs.Sizes.{node_size}
use Rattle.measure.proofs.Trees.{leaf_tree, leaf_back, node_tree, node_rest, Going, going_start, going_end, going_back, left_some, child_sound, going_same, going_on}

-- Depths and sizes of one child more.
pub each_more : (t : Tree) (others : Trees) → length (show_each (more t others)) ≡ 1 + length (show t) + length (show_each others)
unfolding show_each
each_more t others = omega (arith, length-append (show t) (show_each others))

deep_more : (t : Tree) (others : Trees) → depths (more t others) ≡ max (depth t) (depths others)
unfolding depths
deep_more t others = refl

deep_node : (p : ℕ) (children : Trees) → depth (node p children) ≡ 1 + depths children
unfolding depth
deep_node p children = refl

deep_leaf : (t : ℕ) (bytes : List ℕ) → depth (leaf t bytes) ≡ 0
unfolding depth
deep_leaf t bytes = refl

no_more : depths none ≡ 0
unfolding depths
no_more = refl

pub each_none : show_each none ≡ []
unfolding show_each
each_none = refl

-- ---- the walk over children
pub record Measuring (text tree : List ℕ) (n k levels size left total asked : ℕ) : Type 0 where
  pub walked : Trees
  pub going : Going text tree n k walked left asked
  pub total_is : total ≡ up_by size (length (show_each walked))
  pub not_deep : depths walked ≤ levels

-- ---- measuring a node
module _ (text tree : List ℕ) (n levels size : ℕ) (s : Sound text tree (n + 1)) {w : ℕ} (ew : w ≡ get_or tree (n * record_words) 0) where
  pub measure_leaf : w < first_nonterminal → {r : ℕ} → r ≡ up_by size (length (show (leaf_of text tree n)))
      → Measures text tree n levels size (show (tree_at text tree n)) (depth (tree_at text tree n)) (trees_before text tree n) (record { deep = false; left = n; size = r })
  measure_leaf h e =
      let l = rw ew at h in
      record {
        deep = rw (leaf_tree text tree n s l, deep_leaf (get_or tree (n * record_words) 0) _) (sym (le-ltb levels 0 (omega arith)));
        grown = λ z. rw (leaf_tree text tree n s l) e;
        back = λ z. leaf_back text tree n s l;
      }

  module _ (h : first_nonterminal ≤ w) where
    up : first_nonterminal ≤ get_or tree (n * record_words) 0
    up = rw ew at h

    pub measure_over : levels ≡ 0
        → Measures text tree n levels size (show (tree_at text tree n)) (depth (tree_at text tree n)) (trees_before text tree n) (record { deep = true; left = 0; size = 0 })
    measure_over e = record {
      deep = rw (node_tree text tree n s up, deep_node (get_or tree (n * record_words + 1) 0) _) (sym (lt-ltb levels _ (omega arith)));
      grown = λ z. absurd (false-true (sym z));
      back = λ z. absurd (false-true (sym z));
    }

    module _ {x k a head : ℕ} (ex : x ≡ get_or tree (n * record_words + 1) 0) (ek : k ≡ get_or tree (n * record_words + 2) 0) (ea : a ≡ up_by size (length (decimal x)))
        (eh : head ≡ up_by a 2) where
      pub measure_done : (levels ≡ 0 → ⊥) → {r : Measured}
          → Measures text tree n (levels - 1) head (show_each (last_of text tree n k).children) (depths (last_of text tree n k).children) (last_of text tree n k).rest r
          → Measures text tree n levels size (show (tree_at text tree n)) (depth (tree_at text tree n)) (trees_before text tree n) r
      measure_done l {r} q =
          let kids = (last_of text tree n (get_or tree (n * record_words + 2) 0)).children in
          let t : tree_at text tree n ≡ node (get_or tree (n * record_words + 1) 0) kids = node_tree text tree n s up in
          let p = rw (ek) at q in
          record {
            deep = p.deep ∙ one_level levels (depths kids) l ∙ rw (t, deep_node (get_or tree (n * record_words + 1) 0) kids);
            grown = λ z. let g = p.grown z in rw t (omega (arith, g, eh, ea, ap (λ (y : ℕ). length (decimal y)) ex, node_size (get_or tree (n * record_words + 1) 0) kids));
            back = λ z. rw (node_rest text tree n s up) (p.back z);
          }
        where
          one_level : (levels d : ℕ) → (levels ≡ 0 → ⊥) → ltb (levels - 1) d ≡ ltb levels (1 + d)
          one_level levels d l = go (ltb levels (1 + d)) refl
            where
              go : (y : Bool) → ltb levels (1 + d) ≡ y → ltb (levels - 1) d ≡ y
              go true e = let h = ltb-true levels (1 + d) e in lt-ltb (levels - 1) d (omega arith)
              go false e = let h = ltb-false levels (1 + d) e in le-ltb (levels - 1) d (omega arith)

-- ---- measuring children
module _ (text tree : List ℕ) (n k levels size : ℕ) where
  abbrev Result : Measured → Type 0
  Result = Measures text tree n levels size (show_each (last_of text tree n k).children) (depths (last_of text tree n k).children) (last_of text tree n k).rest

  pub measuring_start : Sound text tree n → size ≤ 18446744073709551615 → Measuring text tree n k levels size n size k
  measuring_start s l = record {
    walked = none;
    going = going_start s;
    total_is = rw each_none (omega (arith, l));
    not_deep = rw no_more (omega arith);
  }

  pub measuring_end : {left total asked : ℕ} → asked ≤ 0 → Measuring text tree n k levels size left total asked → Result (record { deep = false; left = left; size = total })
  measuring_end e p =
      let z = ap (λ (x : Taken). x.children) (going_end p.going e) in
      record {
        deep = rw z (sym (le-ltb levels (depths p.walked) p.not_deep));
        grown = λ y. rw z p.total_is;
        back = λ y. going_back p.going e;
      }

  module _ (enough : (last_of text tree n k).enough ≡ true) {left total asked : ℕ} (p : Measuring text tree n k levels size left total asked)
      (m : 0 < asked) where
    pub kid_left : 1 ≤ left
    kid_left = let z = left_some p.going enough m in omega arith

    pub kid_fewer : left ≤ n
    kid_fewer = p.going.fewer

    pub kid_sound : Sound text tree (left - 1 + 1)
    kid_sound = child_sound p.going enough m

    module _ {c : Measured} (q : Measures text tree (left - 1) levels total (show (tree_at text tree (left - 1))) (depth (tree_at text tree (left - 1))) (trees_before text tree (left - 1)) c) where
      pub measuring_deep : c.deep ≡ true → Result c
      measuring_deep e =
          let d = tree_at text tree (left - 1) in
          let h : levels < depth d = ltb-true levels (depth d) (sym q.deep ∙ e) in
          let l : depths (more d p.walked) ≤ depths (last_of text tree n k).children =
          rw (going_same p.going enough m) (take_deeper (asked - 1) (trees_before text tree (left - 1)) (more d p.walked)) in
          record {
            deep = e ∙ sym (lt-ltb levels _ (omega (arith, h, l, deep_more d p.walked)));
            grown = λ z. absurd (false-true (sym z ∙ e));
            back = λ z. absurd (false-true (sym z ∙ e));
          }

      pub measuring_on : c.deep ≡ false → {total' : ℕ} → total' ≡ up_by c.size 1 → Measuring text tree n k levels size c.left total' (asked - 1)
      measuring_on e g =
          let d = tree_at text tree (left - 1) in
          record {
            walked = more d p.walked;
            going = going_on p.going enough m (q.back e);
            total_is = omega (arith, g, q.grown e, p.total_is, each_more d p.walked);
            not_deep = omega (arith, p.not_deep, deep_more d p.walked, ltb-false levels (depth d) (sym q.deep ∙ e));
          }
