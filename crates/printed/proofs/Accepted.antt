-- An accepted parse of a pack that passes always prints, unless it is deeper than 256 or the room is too small: its records are one
-- derivation, and so one whole tree. Assumes nothing.
use mathlib.Core.Path.{◌≡◌, refl, sym, ap, ◌∙◌}
use mathlib.Core.Bool.{true}
use mathlib.Core.List.{List, [], ◌∷◌, ◌++◌, append_assoc}
use Prim.Native.Nat.{ℕ, zero, suc, ◌+◌, ◌*◌, ◌<◌, ◌≤◌}
use native.Mathlib.Omega.{arith}
use lib.ListN.{length, take, length-append}
use borrow.Author.Tests.{le-ltb}
use Rattle.numbers.specs.Codes.{done}
use Rattle.numbers.specs.Verdicts.{Good}
use Rattle.numbers.proofs.Laws.{deliver_all}
use Rattle.pack.specs.Image.{terminals, productions, states, lhs, len, act, goto, symbols_from, right_side, of_nonterminal}
use Rattle.shape.specs.Shape.{shape}
use Rattle.shape.proofs.Good.{good_laid}
use Rattle.shape.proofs.GoodParser.{good_shift, good_goto, good_lhs}
use Rattle.conditions.specs.declared.Checked.{Checked}
use Rattle.conditions.specs.Conditions.{Passes}
use Rattle.conditions.specs.Check.{passed, check}
use Rattle.conditions.proofs.Answers.{checked_passes}
use Rattle.records.specs.declared.Parsed.{Parsed}
use Rattle.parse.specs.Leaf.{leaf_bytes}
use Rattle.parse.specs.Parse.{record_words, leaf_record, node_record, parse, tree_after}
use Rattle.promise.specs.Derivation.{Trees, none, leaf, node}
use Rattle.promise.specs.Promised.{Accepted}
use Rattle.promise.proofs.Entry as Entry
use Rattle.print.specs.Print as Print
use Rattle.print.specs.Print.{Tree, depth, show, Standing, nothing, Taken, take_off, standing, most_nodes, print_tree, print_one, print}
use Rattle.print.proofs.Records.{with_leaf, with_node, is_leaf, is_node, standing-append}
use Rattle.print.proofs.Taken.{take_enough}

-- A right side has as many symbols as its production says.
symbols_length : (img : List ℕ) (p n i : ℕ) → length (symbols_from img p n i) ≡ n
unfolding symbols_from
symbols_length img p zero i = refl
symbols_length img p (suc n) i = ap suc (symbols_length img p n (i + 1))

-- Where a node takes exactly the trees in front, the others are left.
take_front : (front back : List Tree) (children : Print.Trees) (n : ℕ) → length front ≡ n → (take_off n (front ++ back) children).rest ≡ back
unfolding take_off
take_front [] back children zero e = refl
take_front [] back children (suc n) e = absurd (omega (arith, e))
take_front (t ∷ front) back children zero e = absurd (omega (arith, e))
take_front (t ∷ front) back children (suc n) e = take_front front back (Print.more t children) n (omega (arith, e))

module _ (img text : List ℕ) (good : shape img ≡ Good) where
  -- These words are whole records; after them so many more trees stand than before, and state u is a parse state.
  record Adds (s : Standing) (words : List ℕ) (many u : ℕ) : Type 0 where
    state : u < states img
    records : ℕ
    whole : length words ≡ records * record_words
    sound : (standing text words s).sound ≡ true
    new : List Tree
    trees : (standing text words s).trees ≡ new ++ s.trees
    count : length new ≡ many

  module _ (s : Standing) (e : s.sound ≡ true) {words : List ℕ} {many u : ℕ} where
    -- One tree, and then what stands after it.
    then : {s₁ : Standing} (t : Tree) (rest : List ℕ) (n : ℕ) → length rest ≡ n * record_words → standing text rest s ≡ s₁ → s₁.trees ≡ t ∷ s.trees
        → Adds s₁ words many u → Adds s (rest ++ words) (suc many) u
    then {s₁} t rest n w f g more =
        let z : standing text (rest ++ words) s ≡ standing text words s₁ = standing-append text n rest words s w ∙ ap (standing text words) f in
        record {
          state = more.state;
          records = n + more.records;
          whole = length-append rest words ∙ omega (arith, w, more.whole);
          sound = rw z more.sound;
          new = more.new ++ (t ∷ []);
          trees = rw z (more.trees ∙ rw g (sym (append_assoc more.new (t ∷ []) s.trees)));
          count = length-append more.new (t ∷ []) ∙ omega (arith, more.count);
        }

  module _ (s : Standing) (e : s.sound ≡ true) (r : ℕ) (h : r < states img) where
    with_leaf_lem : {words : List ℕ} {many u : ℕ} (t v start size : ℕ) → t < terminals img → act img r t ≡ 2 + 2 * v
        → (v < states img → (s₁ : Standing) → s₁.sound ≡ true → Adds s₁ words many u) → Adds s (leaf_record t start size r ++ words) (suc many) u
    unfolding standing
    with_leaf_lem t v start size l a next =
        let g = good_shift img good r t v h l a in
        then s e (Print.leaf t (leaf_bytes text t start size r)) (leaf_record t start size r) 1 refl
        (is_leaf text t start size r s (λ z. omega (arith, g.0, z)) (omega (arith, l, (good_laid img good).sized.t_most))) refl
        (next g.1 (with_leaf text t start size r s) e)

    module _ (p v w : ℕ) (children : List ℕ) (l : p < productions img) (inner : Adds s children (length (right_side img p)) w) (g : goto img r (lhs img p) ≡ 1 + v) where
      abbrev kids : Standing
      kids = standing text children s

      abbrev taken : Taken
      taken = take_off (len img p) kids.trees Print.none

      many_kids : length inner.new ≡ len img p
      many_kids = inner.count ∙ symbols_length img p (len img p) 0

      enough : taken.enough ≡ true
      enough = take_enough (len img p) kids.trees Print.none (omega (arith, ap length inner.trees, many_kids, length-append inner.new s.trees))

      rest_left : taken.rest ≡ s.trees
      rest_left = ap (λ (x : List Tree). (take_off (len img p) x Print.none).rest) inner.trees ∙ take_front inner.new s.trees Print.none (len img p) many_kids

      made : Standing
      made = with_node text (of_nonterminal (lhs img p)) p (len img p) r kids

      made_sound : made.sound ≡ true
      unfolding made
      made_sound = rw (inner.sound, enough)

      made_trees : made.trees ≡ Print.node p taken.children ∷ s.trees
      unfolding made
      made_trees = ap (λ (x : List Tree). Print.node p taken.children ∷ x) rest_left

      made_there : standing text (children ++ node_record img p r) s ≡ made
      unfolding standing made
      made_there =
          standing-append text inner.records children (node_record img p r) s inner.whole
          ∙ is_node text (of_nonterminal (lhs img p)) p (len img p) r kids (omega arith)

      goes_on : v < states img
      goes_on = omega (arith, good_goto img good r (lhs img p) h (good_lhs img good p l), g)

      with_node_lem : {words : List ℕ} {many u : ℕ} → (v < states img → (s₁ : Standing) → s₁.sound ≡ true → Adds s₁ words many u) → Adds s (children ++ (node_record img p r ++ words)) (suc many) u
      with_node_lem {words} next =
          rw (← append_assoc children (node_record img p r) words)
          (then s e (Print.node p taken.children) (children ++ node_record img p r) (inner.records + 1)
          (length-append children (node_record img p r) ∙ omega (arith, inner.whole)) made_there made_trees (next goes_on made made_sound))

  adds : {r u : ℕ} {symbols words : List ℕ} → Trees img r symbols words u → r < states img → (s : Standing) → s.sound ≡ true → Adds s words (length symbols) u
  unfolding standing
  adds none h s e = record { state = h; records = 0; whole = refl; sound = e; new = []; trees = refl; count = refl }
  adds (leaf {r = r} {t = t} {v = v} start size l a rest) h s e = with_leaf_lem s e r h t v start size l a (λ q s₁ f. adds rest q s₁ f)
  adds (node {r = r} {p = p} {s = w} {v = v} {children = children} l kids reduces g rest) h s e =
      with_node_lem s e r h p v w children l (adds kids h s e) g (λ q s₁ f. adds rest q s₁ f)

-- What an accepted parse prints.
pub record Printable (text words : List ℕ) : Type 0 where
  pub tree : Tree
  pub sound : (standing text words nothing).sound ≡ true
  pub alone : (standing text words nothing).trees ≡ tree ∷ []
  pub prints : (room : ℕ) → depth tree ≤ most_nodes → length (show tree) ≤ room → (print text words room).answer.code ≡ done

prints_tree : (text words : List ℕ) (tree : Tree) → (standing text words nothing).sound ≡ true → (standing text words nothing).trees ≡ tree ∷ [] → (room : ℕ)
    → depth tree ≤ most_nodes → length (show tree) ≤ room → (print text words room).answer.code ≡ done
unfolding print print_one print_tree
prints_tree text words tree f g room d l = simp (print, f, g, print_one, print_tree, le-ltb most_nodes (depth tree) d, deliver_all (show tree) room l)

pub accepted_prints : (img text words : List ℕ) → Passes img → Accepted img text words → Printable text words
accepted_prints img text words passes a = one all.new all.count all.trees
  where
    all : Adds img text passes.good nothing words 1 a.final
    all = adds img text passes.good a.derivation (omega (arith, (good_laid img passes.good).sized.s_least)) nothing refl

    one : (new : List Tree) → length new ≡ 1 → (standing text words nothing).trees ≡ new ++ [] → Printable text words
    one [] n e = absurd (omega (arith, n))
    one (t ∷ u ∷ others) n e = absurd (omega (arith, n))
    one (t ∷ []) n e = record { tree = t; sound = all.sound; alone = e; prints = prints_tree text words t all.sound e }

-- The same of the functions themselves: of what the check gave, and of what the parse returned and left in the lent tree.
pub parsed_prints : (img text tree tree' : List ℕ) (allowance : ℕ) (c : Checked) (r : Parsed) → c ≡ check img → c ≡ passed
    → r ≡ (parse img text tree allowance).parsed → tree' ≡ tree_after tree (parse img text tree allowance) → r.code ≡ done
    → Printable text (take (r.records * record_words) tree')
parsed_prints img text tree tree' allowance c r checks zeros gives leaves e =
    accepted_prints img text _ (checked_passes img (sym checks ∙ zeros)) (Entry.accepted img text tree tree' allowance c r checks zeros gives leaves e)
