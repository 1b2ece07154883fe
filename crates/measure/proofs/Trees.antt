-- What stands after so many records, and what one more makes of it. Assumes nothing.
use mathlib.Core.Path.{◌≡◌, refl, sym, ap, ◌∙◌}
use mathlib.Core.Bool.{true, ◌&&◌}
use mathlib.Core.List.{List, [], ◌∷◌, ◌++◌, append_assoc}
use Prim.Native.Nat.{ℕ, suc, ◌+◌, ◌*◌, ◌-◌, ◌<◌, ◌≤◌}
use native.Mathlib.Numerals.{add-one, add-two, add-three}
use native.Mathlib.Omega.{arith}
use lib.ListN.{length, get_or, take, drop, take-append-drop}
use lib.Seq.{take-suc, take_all, length-take-le}
use Rattle.pack.specs.Image.{first_nonterminal}
use Rattle.parse.specs.Parse.{record_words}
use Rattle.print.specs.Print.{Tree, leaf, node, Trees, none, more, Standing, nothing, Taken, take_off, one_more, standing}
use Rattle.print.proofs.Records.{both_right, is_leaf, is_node, sound_before, sound_first, standing-append, sound_start}
use Rattle.print.proofs.Taken.{take_some, take_next}
use Rattle.measure.specs.Steps.{up_to, Sound, tree_at, trees_before, last_of, leaf_of, Back}

module _ (text tree : List ℕ) where
  -- Before the first record nothing stands.
  pub at_start : up_to text tree 0 ≡ nothing
  unfolding standing
  at_start = refl

  some_left : (n : ℕ) → 0 < length (up_to text tree n).trees → n ≡ 0 → ⊥
  some_left n h e = let z : length (up_to text tree n).trees ≡ 0 = ap (λ (k : ℕ). length (up_to text tree k).trees) e ∙ ap (λ (s : Standing). length s.trees) at_start in omega (arith, z, h)

  -- The others go on from what stands.
  pub from_there : (n : ℕ) → n * record_words ≤ length tree → standing text tree nothing ≡ standing text (drop (n * record_words) tree) (up_to text tree n)
  from_there n h =
      ap (λ (x : List ℕ). standing text x nothing) (sym (take-append-drop (n * record_words) tree))
      ∙ standing-append text n (take (n * record_words) tree) (drop (n * record_words) tree) nothing (length-take-le (n * record_words) tree h)

  pub at_end : (n : ℕ) → length tree ≡ n * record_words → up_to text tree n ≡ standing text tree nothing
  at_end n e = ap (λ (x : List ℕ). standing text x nothing) (take_all (n * record_words) tree (omega (arith, e)))

  -- What is sound at the end is sound after any of the records.
  pub sound_at : (n : ℕ) → n * record_words ≤ length tree → (standing text tree nothing).sound ≡ true → Sound text tree n
  sound_at n h e = record { there = h; sound = sound_start text (drop (n * record_words) tree) (up_to text tree n) (sym (ap (λ (s : Standing). s.sound) (from_there n h)) ∙ e) }

  module _ (n : ℕ) (there : (n + 1) * record_words ≤ length tree) where
    abbrev i : ℕ
    i = n * record_words

    abbrev a : ℕ
    a = get_or tree i 0

    abbrev b : ℕ
    b = get_or tree (i + 1) 0

    abbrev c : ℕ
    c = get_or tree (i + 2) 0

    abbrev d : ℕ
    d = get_or tree (i + 3) 0

    four : take ((n + 1) * record_words) tree ≡ take i tree ++ (a ∷ b ∷ c ∷ d ∷ [])
    four =
        let z : (n + 1) * record_words ≡ suc (i + 3) = omega arith in
        rw (z, take-suc tree (i + 3) 0 (omega (arith, there)), add-three i, take-suc tree (suc (suc i)) 0 (omega (arith, there)), take-suc tree (suc i) 0 (omega (arith, there)), take-suc tree i 0 (omega (arith, there)), add-two i, add-one i) (simp append_assoc)

    pub step : up_to text tree (n + 1) ≡ one_more text a b c d (up_to text tree n)
    unfolding standing
    step =
        ap (λ (x : List ℕ). standing text x nothing) four
        ∙ standing-append text n (take i tree) (a ∷ b ∷ c ∷ d ∷ []) nothing (length-take-le i tree (omega (arith, there)))

  module _ (n : ℕ) (s : Sound text tree (n + 1)) where
    made : (one_more text (a n s.there) (b n s.there) (c n s.there) (d n s.there) (up_to text tree n)).sound ≡ true
    made = sym (ap (λ (x : Standing). x.sound) (step n s.there)) ∙ s.sound

    pub sound_less : Sound text tree n
    sound_less = record { there = omega (arith, s.there); sound = sound_before text _ _ _ _ (up_to text tree n) made }

    -- A leaf.
    module _ (h : get_or tree (n * record_words) 0 < first_nonterminal) where
      leaf_there : up_to text tree (n + 1) ≡ record { sound = (up_to text tree n).sound; trees = leaf_of text tree n ∷ (up_to text tree n).trees }
      leaf_there = step n s.there ∙ is_leaf text _ _ _ _ (up_to text tree n) (sound_first text _ _ _ _ (up_to text tree n) made) h

      pub leaf_tree : tree_at text tree n ≡ leaf_of text tree n
      leaf_tree = ap (λ (x : Standing). get_or x.trees 0 (leaf 0 [])) leaf_there

      pub leaf_back : Back text tree n (trees_before text tree n) n
      leaf_back = record { fewer = omega arith; sound = sound_less; stand = sym (ap (λ (x : Standing). drop 1 x.trees) leaf_there) }

    -- A node.
    module _ (h : first_nonterminal ≤ get_or tree (n * record_words) 0) where
      abbrev taken : Taken
      taken = last_of text tree n (get_or tree (n * record_words + 2) 0)

      node_there : up_to text tree (n + 1) ≡ record { sound = (up_to text tree n).sound && taken.enough; trees = node (get_or tree (n * record_words + 1) 0) taken.children ∷ taken.rest }
      node_there = step n s.there ∙ is_node text _ _ _ _ (up_to text tree n) h

      pub node_enough : taken.enough ≡ true
      node_enough = both_right (up_to text tree n).sound _ (sym (ap (λ (x : Standing). x.sound) node_there) ∙ s.sound)

      pub node_tree : tree_at text tree n ≡ node (get_or tree (n * record_words + 1) 0) taken.children
      node_tree = ap (λ (x : Standing). get_or x.trees 0 (leaf 0 [])) node_there

      pub node_rest : trees_before text tree n ≡ taken.rest
      node_rest = ap (λ (x : Standing). drop 1 x.trees) node_there

-- ---- the children, from the last one on
-- Of the last k trees after n records these are walked over, and so many more are asked for of those that stand after `left` records.
pub record Going (text tree : List ℕ) (n k : ℕ) (walked : Trees) (left asked : ℕ) : Type 0 where
  pub fewer : left ≤ n
  pub sound : Sound text tree left
  pub same : last_of text tree n k ≡ take_off asked (up_to text tree left).trees walked

module _ {text tree : List ℕ} {n k : ℕ} where
  pub going_start : Sound text tree n → Going text tree n k none n k
  going_start s = record { fewer = omega arith; sound = s; same = refl }

  module _ {walked : Trees} {left asked : ℕ} (g : Going text tree n k walked left asked) where
    pub going_end : asked ≤ 0 → last_of text tree n k ≡ record { enough = true; children = walked; rest = (up_to text tree left).trees }
    unfolding take_off
    going_end e = let z : asked ≡ 0 = omega arith in g.same ∙ rw z

    pub going_back : asked ≤ 0 → Back text tree n (last_of text tree n k).rest left
    going_back e = record { fewer = g.fewer; sound = g.sound; stand = sym (ap (λ (x : Taken). x.rest) (going_end e)) }

    module _ (enough : (last_of text tree n k).enough ≡ true) (some_asked : 0 < asked) where
      more-asked : asked ≡ 0 → ⊥
      more-asked z = omega (arith, some_asked, z)

      still : (take_off asked (up_to text tree left).trees walked).enough ≡ true
      still = sym (ap (λ (x : Taken). x.enough) g.same) ∙ enough

      pub left_some : left ≡ 0 → ⊥
      left_some = some_left text tree left (take_some asked _ walked still more-asked)

      pub back_one : left - 1 + 1 ≡ left
      back_one = let n = left_some in omega arith

      pub child_sound : Sound text tree (left - 1 + 1)
      child_sound = rw back_one g.sound

      abbrev pub child : Tree
      child = tree_at text tree (left - 1)

      next : take_off asked (up_to text tree left).trees walked ≡ take_off (asked - 1) (trees_before text tree (left - 1)) (more child walked)
      next = rw back_one (take_next asked (up_to text tree left).trees walked still more-asked)

      pub going_same : last_of text tree n k ≡ take_off (asked - 1) (trees_before text tree (left - 1)) (more child walked)
      going_same = g.same ∙ next

      pub going_on : {left' : ℕ} → Back text tree (left - 1) (trees_before text tree (left - 1)) left' → Going text tree n k (more child walked) left' (asked - 1)
      going_on b = record { fewer = omega (arith, b.fewer, g.fewer); sound = b.sound; same = going_same ∙ rw b.stand }
