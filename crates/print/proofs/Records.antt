-- The records of a tree, one more and many more. Assumes nothing.
use mathlib.Core.Path.{◌≡◌, refl, sym, ap, ◌∙◌}
use mathlib.Core.Bool.{Bool, true, false, ◌&&◌}
use mathlib.Core.List.{List, [], ◌∷◌, ◌++◌}
use Prim.Native.Nat.{ℕ, zero, suc, ◌+◌, ◌*◌, ◌<◌, ◌≤◌}
use native.Mathlib.Omega.{arith}
use lib.Dec.{eqb, ltb}
use lib.ListN.{length}
use borrow.Author.Tests.{eq-eqb, ne_eqb, lt-ltb, le-ltb, eqb-true, eqb-false, ltb-true, ltb-false}
use Rattle.pack.specs.Image.{first_nonterminal}
use Rattle.parse.specs.Leaf.{leaf_bytes}
use Rattle.parse.specs.Parse.{record_words}
use Rattle.print.specs.Print.{leaf, node, none, Standing, wrong, take_off, one_more, standing}

pub false-true : false ≡ true → ⊥
false-true e = let z : ◌≡◌ {A = ℕ} 0 1 = cc in absurd (omega arith)

pub both_left : (a b : Bool) → (a && b) ≡ true → a ≡ true
both_left true b e = refl
both_left false b e = absurd (false-true e)

pub both_right : (a b : Bool) → (a && b) ≡ true → b ≡ true
both_right true b e = e
both_right false b e = absurd (false-true e)

-- ---- one record more: it is wrong, a leaf or a node
module _ (text : List ℕ) (a b c d : ℕ) (s : Standing) where
  abbrev pub with_leaf : Standing
  with_leaf = record { sound = s.sound; trees = leaf a (leaf_bytes text a b c d) ∷ s.trees }

  abbrev pub with_node : Standing
  with_node = let t = take_off c s.trees none in record { sound = s.sound && t.enough; trees = node b t.children ∷ t.rest }

  pub is_wrong_lem : a ≡ 0 → one_more text a b c d s ≡ wrong
  unfolding one_more
  is_wrong_lem e = simp (one_more, eq-eqb a 0 e)

  pub is_leaf : (a ≡ 0 → ⊥) → a < first_nonterminal → one_more text a b c d s ≡ with_leaf
  unfolding one_more
  is_leaf n h = simp (one_more, ne_eqb a 0 n, lt-ltb a first_nonterminal h)

  pub is_node : first_nonterminal ≤ a → one_more text a b c d s ≡ with_node
  unfolding one_more
  is_node h = simp (one_more, ne_eqb a 0 (λ e. omega arith), le-ltb a first_nonterminal h)

  pub data Way : Type 0 where
    wrongs : a ≡ 0 → one_more text a b c d s ≡ wrong → Way
    leaves : (a ≡ 0 → ⊥) → a < first_nonterminal → one_more text a b c d s ≡ with_leaf → Way
    nodes : first_nonterminal ≤ a → one_more text a b c d s ≡ with_node → Way

  pub way : Way
  way = go (eqb a 0) refl (ltb a first_nonterminal) refl
    where
      go : (x : Bool) → eqb a 0 ≡ x → (y : Bool) → ltb a first_nonterminal ≡ y → Way
      go true e y f = wrongs (eqb-true a 0 e) (is_wrong_lem (eqb-true a 0 e))
      go false e true f = leaves (eqb-false a 0 e) (ltb-true a 64 f) (is_leaf (eqb-false a 0 e) (ltb-true a 64 f))
      go false e false f = nodes (ltb-false a 64 f) (is_node (ltb-false a 64 f))

  -- What is sound with one more is sound without it, and its first word is not 0.
  pub sound_before : (one_more text a b c d s).sound ≡ true → s.sound ≡ true
  sound_before e = go way
    where
      go : Way → s.sound ≡ true
      go (wrongs z w) = absurd (false-true (sym (ap (λ (x : Standing). x.sound) w) ∙ e))
      go (leaves z l w) = sym (ap (λ (x : Standing). x.sound) w) ∙ e
      go (nodes l w) = both_left _ _ (sym (ap (λ (x : Standing). x.sound) w) ∙ e)

  pub sound_first : (one_more text a b c d s).sound ≡ true → a ≡ 0 → ⊥
  sound_first e z = absurd (false-true (sym (ap (λ (x : Standing). x.sound) (is_wrong_lem z)) ∙ e))

-- ---- many
-- After whole records the others go on from what stands.
pub standing-append : (text : List ℕ) (n : ℕ) (x y : List ℕ) (s : Standing) → length x ≡ n * record_words
    → standing text (x ++ y) s ≡ standing text y (standing text x s)
unfolding standing
standing-append text zero [] y s e = refl
standing-append text zero (a ∷ x) y s e = absurd (omega (arith, e))
standing-append text (suc n) [] y s e = absurd (omega (arith, e))
standing-append text (suc n) (a ∷ []) y s e = absurd (omega (arith, e))
standing-append text (suc n) (a ∷ b ∷ []) y s e = absurd (omega (arith, e))
standing-append text (suc n) (a ∷ b ∷ c ∷ []) y s e = absurd (omega (arith, e))
standing-append text (suc n) (a ∷ b ∷ c ∷ d ∷ x) y s e = standing-append text n x y (one_more text a b c d s) (omega (arith, e))

-- What is sound at the end is sound from the start.
pub sound_start : (text words : List ℕ) (s : Standing) → (standing text words s).sound ≡ true → s.sound ≡ true
unfolding standing
sound_start text [] s e = e
sound_start text (a ∷ []) s e = absurd (false-true e)
sound_start text (a ∷ b ∷ []) s e = absurd (false-true e)
sound_start text (a ∷ b ∷ c ∷ []) s e = absurd (false-true e)
sound_start text (a ∷ b ∷ c ∷ d ∷ words) s e = sound_before text a b c d s (sound_start text words (one_more text a b c d s) e)

-- Words that are no whole records are wrong.
pub left_over : (text words : List ℕ) (s : Standing) (n : ℕ) → n * record_words < length words → length words < n * record_words + record_words
    → (standing text words s).sound ≡ true → ⊥
unfolding standing
left_over text [] s n l h e = absurd (omega (arith, l))
left_over text (a ∷ []) s n l h e = false-true e
left_over text (a ∷ b ∷ []) s n l h e = false-true e
left_over text (a ∷ b ∷ c ∷ []) s n l h e = false-true e
left_over text (a ∷ b ∷ c ∷ d ∷ words) s zero l h e = absurd (omega (arith, h))
left_over text (a ∷ b ∷ c ∷ d ∷ words) s (suc n) l h e = left_over text words (one_more text a b c d s) n (omega (arith, l)) (omega (arith, h)) e
