-- The turns of the walks over a node and over children, as they print. Assumes nothing.
use mathlib.Core.Path.{◌≡◌, refl, ap, ◌∙◌}
use mathlib.Core.Bool.{true}
use mathlib.Core.List.{List, [], ◌∷◌, ◌++◌}
use Prim.Native.Nat.{ℕ, ◌+◌, ◌*◌, ◌-◌, ◌<◌, ◌≤◌}
use native.Mathlib.Omega.{arith}
use lib.ListN.{length, get_or}
use Rattle.pack.specs.Image.{first_nonterminal}
use Rattle.parse.specs.Parse.{record_words}
use Rattle.text.specs.Decimal.{decimal}
use Rattle.print.specs.Print.{leaf, node, Trees, none, more, escaped, show, show_each, Taken}
use Rattle.print.proofs.Taken.{take_longer}
use Rattle.printwalk.specs.declared.Cursor.{Cursor}
use Rattle.measure.specs.Steps.{Sound, tree_at, trees_before, last_of, leaf_of}
use Rattle.printwalk.specs.Steps.{Room, Wrote, Prints}
use Rattle.printwalk.proofs.Bytes.{wrote_none, wrote_as, wrote_two, wrote_length, room_last, room_rest, leaf_parts, node_parts}
use Rattle.measure.proofs.Measures.{each_more, each_none}
use Rattle.measure.proofs.Trees.{leaf_tree, leaf_back, node_enough, node_tree, node_rest, Going, going_start, going_end, going_back, left_some, child_sound, going_same, going_on}

-- ---- a leaf and a node, part by part from the right
module _ (t : ℕ) (bytes : List ℕ) {out : List ℕ} {to : ℕ} (room : Room (show (leaf t bytes)) out to) where
  rooms : Room ((((decimal t ++ (58 ∷ [])) ++ (91 ∷ [])) ++ escaped bytes) ++ (93 ∷ [])) out to
  rooms = rw (leaf_parts t bytes) at room

  pub leaf_end_room : Room (93 ∷ []) out to
  leaf_end_room = room_last (((decimal t ++ (58 ∷ [])) ++ (91 ∷ [])) ++ escaped bytes) rooms

  module _ {out₁ : List ℕ} {r₁ : ℕ} (w₁ : Wrote (93 ∷ []) out to out₁ r₁) {bs : List ℕ} (eb : bs ≡ bytes) where
    rooms₁ : Room (((decimal t ++ (58 ∷ [])) ++ (91 ∷ [])) ++ escaped bs) out₁ r₁
    rooms₁ = rw eb (room_rest room.within _ rooms w₁)

    pub leaf_bytes_room : Room (escaped bs) out₁ r₁
    leaf_bytes_room = room_last ((decimal t ++ (58 ∷ [])) ++ (91 ∷ [])) rooms₁

    module _ {out₂ : List ℕ} {r₂ : ℕ} (w₂ : Wrote (escaped bs) out₁ r₁ out₂ r₂) where
      rooms₂ : Room ((decimal t ++ (58 ∷ [])) ++ (91 ∷ [])) out₂ r₂
      rooms₂ = room_rest rooms₁.within _ rooms₁ w₂

      pub leaf_begin_room : Room (91 ∷ []) out₂ r₂
      leaf_begin_room = room_last (decimal t ++ (58 ∷ [])) rooms₂

      module _ {out₃ : List ℕ} {r₃ : ℕ} (w₃ : Wrote (91 ∷ []) out₂ r₂ out₃ r₃) where
        rooms₃ : Room (decimal t ++ (58 ∷ [])) out₃ r₃
        rooms₃ = room_rest rooms₂.within _ rooms₂ w₃

        pub leaf_colon_room : Room (58 ∷ []) out₃ r₃
        leaf_colon_room = room_last (decimal t) rooms₃

        module _ {out₄ : List ℕ} {r₄ : ℕ} (w₄ : Wrote (58 ∷ []) out₃ r₃ out₄ r₄) {x : ℕ} (ex : x ≡ t) where
          pub leaf_number_room : Room (decimal x) out₄ r₄
          leaf_number_room = rw ex (room_rest rooms₃.within _ rooms₃ w₄)

          pub leaf_wrote : {out₅ : List ℕ} {r₅ : ℕ} → Wrote (decimal x) out₄ r₄ out₅ r₅ → Wrote (show (leaf t bytes)) out to out₅ r₅
          leaf_wrote w₅ =
              wrote_as _ (leaf_parts t bytes)
              (wrote_two room.within w₁ (wrote_two rooms₁.within (rw eb at w₂) (wrote_two rooms₂.within w₃ (wrote_two rooms₃.within w₄ (rw ex at w₅)))))

module _ (p : ℕ) (children : Trees) {out : List ℕ} {to : ℕ} (room : Room (show (node p children)) out to) where
  node_rooms : Room ((((40 ∷ []) ++ decimal p) ++ show_each children) ++ (41 ∷ [])) out to
  node_rooms = rw (node_parts p children) at room

  node_end_room : Room (41 ∷ []) out to
  node_end_room = room_last (((40 ∷ []) ++ decimal p) ++ show_each children) node_rooms

  module _ {out₁ : List ℕ} {r₁ : ℕ} (w₁ : Wrote (41 ∷ []) out to out₁ r₁) where
    node_rooms₁ : Room (((40 ∷ []) ++ decimal p) ++ show_each children) out₁ r₁
    node_rooms₁ = room_rest room.within _ node_rooms w₁

    node_children_room : Room (show_each children) out₁ r₁
    node_children_room = room_last ((40 ∷ []) ++ decimal p) node_rooms₁

    module _ {out₂ : List ℕ} {r₂ : ℕ} (w₂ : Wrote (show_each children) out₁ r₁ out₂ r₂) {x : ℕ} (ex : x ≡ p) where
      node_rooms₂ : Room ((40 ∷ []) ++ decimal x) out₂ r₂
      node_rooms₂ = rw ex (room_rest node_rooms₁.within _ node_rooms₁ w₂)

      node_number_room : Room (decimal x) out₂ r₂
      node_number_room = room_last (40 ∷ []) node_rooms₂

      module _ {out₃ : List ℕ} {r₃ : ℕ} (w₃ : Wrote (decimal x) out₂ r₂ out₃ r₃) where
        node_begin_room : Room (40 ∷ []) out₃ r₃
        node_begin_room = room_rest node_rooms₂.within _ node_rooms₂ w₃

        node_wrote : {out₄ : List ℕ} {r₄ : ℕ} → Wrote (40 ∷ []) out₃ r₃ out₄ r₄ → Wrote (show (node p children)) out to out₄ r₄
        node_wrote w₄ =
            wrote_as _ (node_parts p children)
            (wrote_two room.within w₁ (wrote_two node_rooms₁.within w₂ (wrote_two node_rooms₂.within (rw ex at w₃) w₄)))

-- ---- the walk over children
pub record Printing (text tree : List ℕ) (n k : ℕ) (out₀ : List ℕ) (to : ℕ) (out : List ℕ) (left at asked : ℕ) : Type 0 where
  pub walked : Trees
  pub going : Going text tree n k walked left asked
  pub wrote : Wrote (show_each walked) out₀ to out at
  pub same_length : length out ≡ length out₀

-- ---- printing a node
module _ (text tree : List ℕ) (n : ℕ) {out : List ℕ} {to : ℕ} (s : Sound text tree (n + 1)) (room : Room (show (tree_at text tree n)) out to)
    {w : ℕ} (ew : w ≡ get_or tree (n * record_words) 0) where
  module _ (h : w < first_nonterminal) where
    low : get_or tree (n * record_words) 0 < first_nonterminal
    low = rw ew at h

    pub print_leaf_room : Room (show (leaf_of text tree n)) out to
    print_leaf_room = rw (leaf_tree text tree n s low) at room

    pub print_leaf_done : {out' : List ℕ} {r : ℕ} → Wrote (show (leaf_of text tree n)) out to out' r
        → Prints text tree n (show (tree_at text tree n)) (trees_before text tree n) out to out' (record { left = n; at = r })
    print_leaf_done v = record { wrote = rw (leaf_tree text tree n s low) v; back = leaf_back text tree n s low }

  module _ (h : first_nonterminal ≤ w) where
    high : first_nonterminal ≤ get_or tree (n * record_words) 0
    high = rw ew at h

    kids : Trees
    kids = (last_of text tree n (get_or tree (n * record_words + 2) 0)).children

    whole : Room (show (node (get_or tree (n * record_words + 1) 0) kids)) out to
    unfolding kids
    whole = rw (node_tree text tree n s high) at room

    pub print_end_room : Room (41 ∷ []) out to
    print_end_room = node_end_room _ kids whole

    module _ {out₁ : List ℕ} {r₁ : ℕ} (w₁ : Wrote (41 ∷ []) out to out₁ r₁) {k : ℕ} (ek : k ≡ get_or tree (n * record_words + 2) 0) where
      pub print_kids_enough : (last_of text tree n k).enough ≡ true
      print_kids_enough = rw ek (node_enough text tree n s high)

      pub print_kids_room : Room (show_each (last_of text tree n k).children) out₁ r₁
      unfolding kids
      print_kids_room = rw ek (node_children_room _ kids whole w₁)

      module _ {out₂ : List ℕ} {c : Cursor} (q : Prints text tree n (show_each (last_of text tree n k).children) (last_of text tree n k).rest out₁ r₁ out₂ c)
          {x : ℕ} (ex : x ≡ get_or tree (n * record_words + 1) 0) where
        w₂ : Wrote (show_each kids) out₁ r₁ out₂ c.at
        unfolding kids
        w₂ = rw ek at q.wrote

        pub print_number_room : Room (decimal x) out₂ c.at
        print_number_room = node_number_room _ kids whole w₁ w₂ ex

        module _ {out₃ : List ℕ} {r₃ : ℕ} (w₃ : Wrote (decimal x) out₂ c.at out₃ r₃) where
          pub print_begin_room : Room (40 ∷ []) out₃ r₃
          print_begin_room = node_begin_room _ kids whole w₁ w₂ ex w₃

          pub print_node_done : {out₄ : List ℕ} {r₄ : ℕ} → Wrote (40 ∷ []) out₃ r₃ out₄ r₄
              → Prints text tree n (show (tree_at text tree n)) (trees_before text tree n) out to out₄ (record { left = c.left; at = r₄ })
          unfolding kids
          print_node_done w₄ = record {
            wrote = rw (node_tree text tree n s high) (node_wrote _ kids whole w₁ w₂ ex w₃ w₄);
            back = rw (node_rest text tree n s high) (rw ek at q.back);
          }

-- ---- printing children
module _ (text tree : List ℕ) (n k : ℕ) {out₀ : List ℕ} {to : ℕ} where
  pub printing_start : Sound text tree n → Printing text tree n k out₀ to out₀ n to k
  printing_start s = record { walked = none; going = going_start s; wrote = rw each_none (wrote_none out₀ to); same_length = refl }

  pub printing_end : {out : List ℕ} {left at asked : ℕ} → asked ≤ 0 → Printing text tree n k out₀ to out left at asked
      → Prints text tree n (show_each (last_of text tree n k).children) (last_of text tree n k).rest out₀ to out (record { left = left; at = at })
  printing_end e p = record {
    wrote = wrote_as _ (ap (λ (x : Taken). show_each x.children) (going_end p.going e)) p.wrote;
    back = going_back p.going e;
  }

  module _ (enough : (last_of text tree n k).enough ≡ true) (room : Room (show_each (last_of text tree n k).children) out₀ to)
      {out : List ℕ} {left at asked : ℕ} (p : Printing text tree n k out₀ to out left at asked) (m : 0 < asked) where
    pub child_left : 1 ≤ left
    child_left = let z = left_some p.going enough m in omega arith

    pub child_fewer : left ≤ n
    child_fewer = p.going.fewer

    pub child_is_sound : Sound text tree (left - 1 + 1)
    child_is_sound = child_sound p.going enough m

    longer : length (show_each (more (tree_at text tree (left - 1)) p.walked)) ≤ length (show_each (last_of text tree n k).children)
    longer = rw (going_same p.going enough m) (take_longer (asked - 1) (trees_before text tree (left - 1)) (more (tree_at text tree (left - 1)) p.walked))

    fit : 1 + length (show (tree_at text tree (left - 1))) ≤ at
    fit = omega (arith, longer, each_more (tree_at text tree (left - 1)) p.walked, p.wrote.begins, room.fits)

    pub child_room : Room (show (tree_at text tree (left - 1))) out at
    child_room = record { fits = omega (arith, fit); within = omega (arith, p.wrote.begins, room.within, p.same_length) }

    module _ {out₁ : List ℕ} {c : Cursor}
        (q : Prints text tree (left - 1) (show (tree_at text tree (left - 1))) (trees_before text tree (left - 1)) out at out₁ c) where
      same₁ : length out₁ ≡ length out
      same₁ = wrote_length child_room.within q.wrote

      pub blank_room : Room (32 ∷ []) out₁ c.at
      blank_room = record { fits = omega (arith, fit, q.wrote.begins); within = omega (arith, q.wrote.begins, child_room.within, same₁) }

      pub printing_on : {out₂ : List ℕ} {r : ℕ} → Wrote (32 ∷ []) out₁ c.at out₂ r → Printing text tree n k out₀ to out₂ c.left r (asked - 1)
      unfolding show_each
      printing_on v = record {
        walked = more (tree_at text tree (left - 1)) p.walked;
        going = going_on p.going enough m q.back;
        wrote = wrote_two room.within p.wrote (wrote_two child_room.within q.wrote v);
        same_length = wrote_length blank_room.within v ∙ same₁ ∙ p.same_length;
      }
