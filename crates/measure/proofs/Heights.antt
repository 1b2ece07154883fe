-- How many trees stand. Assumes nothing.
use mathlib.Core.Path.{◌≡◌, refl, sym, ap, ◌∙◌}
use mathlib.Core.Bool.{Bool, true, false}
use mathlib.Core.List.{List}
use Prim.Native.Nat.{ℕ, ◌+◌, ◌*◌, ◌-◌, ◌/◌, ◌<◌, ◌≤◌}
use native.Mathlib.Omega.{arith}
use lib.Dec.{eqb, ltb}
use lib.ListN.{length, get_or, drop}
use borrow.Author.Tests.{eq-eqb, ne_eqb, lt-ltb, le-ltb, ltb-true, ltb-false}
use Rattle.pack.specs.Image.{first_nonterminal}
use Rattle.parse.specs.Parse.{record_words}
use Rattle.print.specs.Print.{none, Standing, nothing, wrong, one_more, standing}
use Rattle.print.proofs.Records.{false-true, Way, wrongs, leaves, nodes, way, with_node, left_over, sound_start}
use Rattle.print.proofs.Taken.{take_enough, take_short, take_rest}
use Rattle.measure.specs.Steps.{up_to, height_after, height_of}
use Rattle.measure.proofs.Trees.{from_there, at_end, step}

-- ---- the four ways of `height_after`
module _ (first third height : ℕ) where
  pub height_wrong : first ≡ 0 → 0 ≡ height_after first third height
  unfolding height_after
  height_wrong e = simp (height_after, eq-eqb first 0 e)

  module _ (n : first ≡ 0 → ⊥) where
    pub height_leaf : first < first_nonterminal → height + 1 ≡ height_after first third height
    unfolding height_after
    height_leaf h = simp (height_after, ne_eqb first 0 n, lt-ltb first first_nonterminal h)

    module _ (h : first_nonterminal ≤ first) where
      pub height_short : height < third → 0 ≡ height_after first third height
      unfolding height_after
      height_short l = simp (height_after, ne_eqb first 0 n, le-ltb first first_nonterminal h, lt-ltb height third l)

      pub height_node : third ≤ height → height - third + 1 ≡ height_after first third height
      unfolding height_after
      height_node l = simp (height_after, ne_eqb first 0 n, le-ltb first first_nonterminal h, le-ltb height third l)

-- ---- they are the heights of what stands
pub height_sound : (s : Standing) → s.sound ≡ true → height_of s ≡ length s.trees
unfolding height_of
height_sound s e = simp (height_of, e)

height_unsound : (s : Standing) → s.sound ≡ false → height_of s ≡ 0
unfolding height_of
height_unsound s e = simp (height_of, e)

module _ (text : List ℕ) (a b c d : ℕ) (s : Standing) (e : s.sound ≡ true) where
  pub height_more : height_of (one_more text a b c d s) ≡ height_after a c (length s.trees)
  height_more = go (way text a b c d s)
    where
      go : Way text a b c d s → height_of (one_more text a b c d s) ≡ height_after a c (length s.trees)
      go (wrongs z w) = rw w (height_unsound wrong refl ∙ height_wrong a c (length s.trees) z)
      go (leaves n l w) = rw w (height_sound _ e ∙ rw (← height_leaf a c (length s.trees) n l) (omega arith))
      go (nodes l w) = rw w (split (ltb (length s.trees) c) refl)
        where
          split : (x : Bool) → ltb (length s.trees) c ≡ x → height_of (with_node text a b c d s) ≡ height_after a c (length s.trees)
          split true f =
              let k = ltb-true (length s.trees) c f in
              height_unsound _ (rw (e, take_short c s.trees none k)) ∙ height_short a c (length s.trees) (λ z. omega arith) l k
          split false f =
              let k = ltb-false (length s.trees) c f in
              height_sound _ (rw (e, take_enough c s.trees none k)) ∙ rw (← height_node a c (length s.trees) (λ z. omega arith) l k) (omega (arith, take_rest c s.trees none k))

-- A record that is sound leaves a tree.
pub some_tree : (text : List ℕ) (a b c d : ℕ) (s : Standing) → (one_more text a b c d s).sound ≡ true → length (one_more text a b c d s).trees ≡ 0 → ⊥
some_tree text a b c d s e z = go (way text a b c d s)
  where
    go : Way text a b c d s → ⊥
    go (wrongs y w) = false-true (sym (ap (λ (x : Standing). x.sound) w) ∙ e)
    go (leaves n l w) = let y = sym (ap (λ (x : Standing). length x.trees) w) ∙ z in omega (arith, y)
    go (nodes l w) = let y = sym (ap (λ (x : Standing). length x.trees) w) ∙ z in omega (arith, y)

-- And it is at most one more.
pub height_least : (first third height : ℕ) → height_after first third height ≤ height + 1
unfolding height_after
height_least first third height = go (eqb first 0) refl (ltb first first_nonterminal) refl (ltb height third) refl
  where
    go : (x : Bool) → eqb first 0 ≡ x → (y : Bool) → ltb first first_nonterminal ≡ y → (z : Bool) → ltb height third ≡ z → height_after first third height ≤ height + 1
    go true e y f z g = simp (height_after, e) (omega arith)
    go false e true f z g = simp (height_after, e, f) (omega arith)
    go false e false f true g = simp (height_after, e, f, g) (omega arith)
    go false e false f false g = simp (height_after, e, f, g) (omega arith)

module _ (s : Standing) where
  pub height_some : {h : ℕ} → h ≡ height_of s → (h ≡ 0 → ⊥) → (s.sound ≡ true) × (h ≡ length s.trees)
  height_some {h} e n = go s.sound refl
    where
      go : (x : Bool) → s.sound ≡ x → (s.sound ≡ true) × (h ≡ length s.trees)
      go true f = (f, e ∙ height_sound s f)
      go false f = absurd (n (e ∙ height_unsound s f))

-- ---- the loop
not_true : (x : Bool) → (x ≡ true → ⊥) → x ≡ false
not_true true n = absurd (n refl)
not_true false n = refl

-- So many trees stand after i records, whatever the text.
pub record Counted (tree : List ℕ) (i h : ℕ) : Type 0 where
  pub most : h ≤ i
  pub sound : (text : List ℕ) → (up_to text tree i).sound ≡ true
  pub count : (text : List ℕ) → h ≡ length (up_to text tree i).trees

module _ (tree : List ℕ) where
  pub count_start : Counted tree 0 0
  unfolding standing
  count_start = record { most = omega arith; sound = λ text. refl; count = λ text. refl }

  pub over_height : (n : ℕ) → n ≡ length tree / record_words → n * record_words < length tree → (text : List ℕ) → (standing text tree nothing).sound ≡ false
  over_height n e h text = not_true (standing text tree nothing).sound (left_over text tree nothing n h (omega (arith, e)))

  pub count_end : (n i h : ℕ) → n ≡ length tree / record_words → length tree ≤ n * record_words → i ≤ n → n ≤ i → Counted tree i h → (text : List ℕ)
      → ((standing text tree nothing).sound ≡ true) × (h ≡ height_of (standing text tree nothing))
  count_end n i h e l p q k text =
      let z : length tree ≡ i * record_words = omega (arith, e, l, p, q) in (
        sym (ap (λ (s : Standing). s.sound) (at_end text tree i z)) ∙ k.sound text,
        k.count text ∙ sym (height_sound (up_to text tree i) (k.sound text)) ∙ ap height_of (at_end text tree i z),
      )

  module _ (i h : ℕ) (k : Counted tree i h) (there : (i + 1) * record_words ≤ length tree) {a c h' : ℕ} (ea : a ≡ get_or tree (i * record_words) 0)
      (ec : c ≡ get_or tree (i * record_words + 2) 0) (eh : h' ≡ height_after a c h) where
    after : (text : List ℕ) → h' ≡ height_of (up_to text tree (i + 1))
    after text =
        eh ∙ rw (ea, ec, k.count text)
        (sym (height_more text (get_or tree (i * record_words) 0) (get_or tree (i * record_words + 1) 0) (get_or tree (i * record_words + 2) 0) (get_or tree (i * record_words + 3) 0) (up_to text tree i) (k.sound text)))
        ∙ ap height_of (sym (step text tree i there))

    pub count_wrong : h' ≡ 0 → (text : List ℕ) → (standing text tree nothing).sound ≡ false
    count_wrong z text = not_true (standing text tree nothing).sound λ e.
        let m = sound_start text (drop ((i + 1) * record_words) tree) (up_to text tree (i + 1)) (sym (ap (λ (s : Standing). s.sound) (from_there text tree (i + 1) there)) ∙ e) in
        some_tree text _ _ _ _ (up_to text tree i) (sym (ap (λ (s : Standing). s.sound) (step text tree i there)) ∙ m)
        (sym (ap (λ (s : Standing). length s.trees) (step text tree i there)) ∙ sym (height_sound (up_to text tree (i + 1)) m) ∙ sym (after text) ∙ z)

    pub count_on : 0 < h' → Counted tree (i + 1) h'
    count_on l = let n : h' ≡ 0 → ⊥ = λ z. omega arith in record {
      most = omega (arith, eh, height_least a c h, k.most);
      sound = λ text. (height_some (up_to text tree (i + 1)) (after text) n).0;
      count = λ text. (height_some (up_to text tree (i + 1)) (after text) n).1;
    }
