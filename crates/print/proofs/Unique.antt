-- No two trees print alike: a printout tells where it ends, and which tree it is of. Assumes nothing.
use mathlib.Core.Path.{◌≡◌, refl, sym, ap, ap₂, ◌∙◌}
use mathlib.Core.Bool.{Bool, true, false, ◌&&◌}
use mathlib.Core.List.{List, [], ◌∷◌, ◌++◌, append_assoc}
use Prim.Native.Nat.{ℕ, zero, suc, ◌+◌, ◌/◌, ◌%◌, ◌<◌, ◌≤◌, min, max}
use native.Mathlib.Omega.{arith}
use lib.Dec.{ltb}
use lib.ListN.{length, get_or, drop}
use lib.Seq.{drop-append_seam}
use borrow.Author.Tests.{le-leb, ltb-true, ltb-false}
use Rattle.numbers.specs.Codes.{done}
use Rattle.numbers.specs.Front.{Delivery, refuse}
use Rattle.numbers.proofs.Laws.{deliver_none, deliver_all}
use Rattle.text.specs.declared.Field.{Field}
use Rattle.text.specs.Decimal.{is_digit, read_number, decimal}
use Rattle.text.proofs.Decimal.{number_back, field, decimal_one, decimal_more}
use Rattle.print.specs.Print.{Tree, leaf, node, Trees, none, more, special, escaped_byte, escaped, show, show_each, depth, standing, nothing, most_nodes, greatest_number, print_tree, print_one, print}
use Rattle.print.proofs.Records.{false-true}

heads : {a b : ℕ} {x y : List ℕ} → ◌≡◌ {A = List ℕ} (a ∷ x) (b ∷ y) → a ≡ b
heads e = ap (λ (l : List ℕ). get_or l 0 0) e

tails : {a b : ℕ} {x y : List ℕ} → ◌≡◌ {A = List ℕ} (a ∷ x) (b ∷ y) → x ≡ y
tails e = ap (λ (l : List ℕ). drop 1 l) e

-- ---- numbers: the digits end where no digit follows
module _ (m n : ℕ) (x y : List ℕ) (dx : is_digit (get_or x 0 0) ≡ false) (dy : is_digit (get_or y 0 0) ≡ false) (e : decimal m ++ x ≡ decimal n ++ y) where
  fields : field m (length (decimal m)) ≡ field n (length (decimal n))
  fields =
      sym (number_back (max m n) m x (omega arith) dx)
      ∙ ap (read_number (max m n)) e
      ∙ number_back (max m n) n y (omega arith) dy

  same_number : m ≡ n
  same_number = ap (λ (f : Field). f.value) fields

  same_rest : x ≡ y
  same_rest =
      sym (drop-append_seam (decimal m) x)
      ∙ ap (drop (length (decimal m))) e
      ∙ rw (ap (λ (f : Field). f.used) fields) (drop-append_seam (decimal n) y)

-- ---- a number begins with a digit
one_digit : (n : ℕ) (x : List ℕ) → n < 10 → is_digit (get_or (decimal n ++ x) 0 0) ≡ true
unfolding is_digit
one_digit n x h = rw (decimal_one n h) (simp (is_digit, le-leb 48 (48 + n) (omega arith), le-leb (48 + n) 57 (omega arith), ◌&&◌))

digit_below : (k n : ℕ) (x : List ℕ) → n ≤ k → is_digit (get_or (decimal n ++ x) 0 0) ≡ true
digit_below zero n x h = one_digit n x (omega arith)
digit_below (suc k) n x h = go (digit_below k (n / 10) ((48 + n % 10) ∷ x)) (ltb n 10) refl
  where
    go : (n / 10 ≤ k → is_digit (get_or (decimal (n / 10) ++ ((48 + n % 10) ∷ x)) 0 0) ≡ true) → (b : Bool) → ltb n 10 ≡ b
        → is_digit (get_or (decimal n ++ x) 0 0) ≡ true
    go ih true e = one_digit n x (ltb-true n 10 e)
    go ih false e =
        let l = ltb-false n 10 e in
        rw (decimal_more n l, append_assoc (decimal (n / 10)) ((48 + n % 10) ∷ []) x) (ih (omega arith))

digit_first : (n : ℕ) (x : List ℕ) → is_digit (get_or (decimal n ++ x) 0 0) ≡ true
digit_first n x = digit_below n n x (omega arith)

-- ---- bytes: the first `]` that is not escaped ends them
escape : (b : ℕ) → special b ≡ true → escaped_byte b ≡ 92 ∷ b ∷ []
unfolding escaped_byte
escape b e = simp (escaped_byte, e)

plain : (b : ℕ) → special b ≡ false → escaped_byte b ≡ b ∷ []
unfolding escaped_byte
plain b e = simp (escaped_byte, e)

slash_special : special 92 ≡ true
unfolding special
slash_special = refl

close_special : special 93 ≡ true
unfolding special
close_special = refl

-- A byte that is printed as it is, is neither the backslash nor the closing bracket.
not_plain : {b c : ℕ} → b ≡ c → special b ≡ true → special c ≡ false → ⊥
not_plain e t f = false-true (sym f ∙ ap special (sym e) ∙ t)

one_byte : (b : ℕ) (x y : List ℕ) → ◌≡◌ {A = List ℕ} (93 ∷ x) (escaped_byte b ++ y) → ⊥
one_byte b x y e = go (special b) refl
  where
    go : (s : Bool) → special b ≡ s → ⊥
    go true f = let z = heads (rw (escape b f) at e) in omega (arith, z)
    go false f = not_plain (heads (rw (plain b f) at e)) close_special f

module _ (b c : ℕ) (x y : List ℕ) (e : escaped_byte b ++ x ≡ escaped_byte c ++ y) where
  same_byte : (b ≡ c) × (x ≡ y)
  same_byte = go (special b) refl (special c) refl
    where
      go : (s : Bool) → special b ≡ s → (t : Bool) → special c ≡ t → (b ≡ c) × (x ≡ y)
      go true f true g = let z = tails (rw (escape b f, escape c g) at e) in (heads z, tails z)
      go true f false g = absurd (not_plain (heads (rw (escape b f, plain c g) at e)) slash_special g)
      go false f true g = absurd (not_plain (heads (sym (rw (plain b f, escape c g) at e))) slash_special f)
      go false f false g = let z = rw (plain b f, plain c g) at e in (heads z, tails z)

same_bytes : (a b x y : List ℕ) → escaped a ++ (93 ∷ x) ≡ escaped b ++ (93 ∷ y) → (a ≡ b) × (x ≡ y)
unfolding escaped
same_bytes [] [] x y e = (refl, tails e)
same_bytes [] (c ∷ b) x y e = absurd (one_byte c x (escaped b ++ (93 ∷ y)) (e ∙ append_assoc (escaped_byte c) (escaped b) (93 ∷ y)))
same_bytes (c ∷ a) [] x y e = absurd (one_byte c y (escaped a ++ (93 ∷ x)) (sym e ∙ append_assoc (escaped_byte c) (escaped a) (93 ∷ x)))
same_bytes (c ∷ a) (d ∷ b) x y e =
    let z = same_byte c d (escaped a ++ (93 ∷ x)) (escaped b ++ (93 ∷ y)) (sym (append_assoc (escaped_byte c) (escaped a) (93 ∷ x)) ∙ e ∙ append_assoc (escaped_byte d) (escaped b) (93 ∷ y)) in
    let w = same_bytes a b x y z.1 in
    (ap₂ (λ (h : ℕ) (l : List ℕ). h ∷ l) z.0 w.0, w.1)

-- ---- trees
leaf_text : (t : ℕ) (bytes x : List ℕ) → show (leaf t bytes) ++ x ≡ decimal t ++ (58 ∷ 91 ∷ (escaped bytes ++ (93 ∷ x)))
unfolding show
leaf_text t bytes x = simp append_assoc

node_text : (p : ℕ) (children : Trees) (x : List ℕ) → show (node p children) ++ x ≡ 40 ∷ (decimal p ++ (show_each children ++ (41 ∷ x)))
unfolding show
node_text p children x = simp append_assoc

each_text : (t : Tree) (others : Trees) (x : List ℕ) → show_each (more t others) ++ x ≡ 32 ∷ (show t ++ (show_each others ++ x))
unfolding show_each
each_text t others x = simp append_assoc

-- What follows the number of a node is no digit.
no_digit : (children : Trees) (x : List ℕ) → is_digit (get_or (show_each children ++ (41 ∷ x)) 0 0) ≡ false
unfolding show_each is_digit
no_digit none x = refl
no_digit (more t others) x = refl

leaf-node : (t : ℕ) (bytes : List ℕ) (p : ℕ) (children : Trees) (x y : List ℕ) → show (leaf t bytes) ++ x ≡ show (node p children) ++ y → ⊥
unfolding is_digit
leaf-node t bytes p children x y e =
    let z : decimal t ++ (58 ∷ 91 ∷ (escaped bytes ++ (93 ∷ x))) ≡ 40 ∷ (decimal p ++ (show_each children ++ (41 ∷ y))) =
    sym (leaf_text t bytes x) ∙ e ∙ node_text p children y in
    false-true (sym (ap (λ (l : List ℕ). is_digit (get_or l 0 0)) z) ∙ digit_first t (58 ∷ 91 ∷ (escaped bytes ++ (93 ∷ x))))

module _ (t u : ℕ) (a b x y : List ℕ) (e : show (leaf t a) ++ x ≡ show (leaf u b) ++ y) where
  leaf_alike : (leaf t a ≡ leaf u b) × (x ≡ y)
  unfolding is_digit
  leaf_alike =
      let z = sym (leaf_text t a x) ∙ e ∙ leaf_text u b y in
      let n = same_number t u (58 ∷ 91 ∷ (escaped a ++ (93 ∷ x))) (58 ∷ 91 ∷ (escaped b ++ (93 ∷ y))) refl refl z in
      let r = same_rest t u (58 ∷ 91 ∷ (escaped a ++ (93 ∷ x))) (58 ∷ 91 ∷ (escaped b ++ (93 ∷ y))) refl refl z in
      let w = same_bytes a b x y (tails (tails r)) in
      (ap₂ leaf n w.0, w.1)

module _ (p q : ℕ) (a b : Trees) (x y : List ℕ) (e : show (node p a) ++ x ≡ show (node q b) ++ y) where
  after_number : decimal p ++ (show_each a ++ (41 ∷ x)) ≡ decimal q ++ (show_each b ++ (41 ∷ y))
  after_number = tails (sym (node_text p a x) ∙ e ∙ node_text q b y)

  node_number : p ≡ q
  node_number = same_number p q (show_each a ++ (41 ∷ x)) (show_each b ++ (41 ∷ y)) (no_digit a x) (no_digit b y) after_number

  node_children : show_each a ++ (41 ∷ x) ≡ show_each b ++ (41 ∷ y)
  node_children = same_rest p q (show_each a ++ (41 ∷ x)) (show_each b ++ (41 ∷ y)) (no_digit a x) (no_digit b y) after_number

module _ (t u : Tree) (a b : Trees) (x y : List ℕ) (e : show_each (more t a) ++ (41 ∷ x) ≡ show_each (more u b) ++ (41 ∷ y)) where
  after_blank : show t ++ (show_each a ++ (41 ∷ x)) ≡ show u ++ (show_each b ++ (41 ∷ y))
  after_blank = tails (sym (each_text t a (41 ∷ x)) ∙ e ∙ each_text u b (41 ∷ y))

blank_close : (t : Tree) (a : Trees) (x y : List ℕ) → ◌≡◌ {A = List ℕ} (show_each (more t a) ++ x) (41 ∷ y) → ⊥
blank_close t a x y e = let z = heads (sym (each_text t a x) ∙ e) in omega (arith, z)

mutual
  unfolding show_each

  alike : (t u : Tree) (x y : List ℕ) → show t ++ x ≡ show u ++ y → (t ≡ u) × (x ≡ y)
  alike (leaf t a) (leaf u b) x y e = leaf_alike t u a b x y e
  alike (leaf t a) (node q b) x y e = absurd (leaf-node t a q b x y e)
  alike (node p a) (leaf u b) x y e = absurd (leaf-node u b p a y x (sym e))
  alike (node p a) (node q b) x y e =
      let w = each_alike a b x y (node_children p q a b x y e) in
      (ap₂ node (node_number p q a b x y e) w.0, w.1)

  each_alike : (a b : Trees) (x y : List ℕ) → show_each a ++ (41 ∷ x) ≡ show_each b ++ (41 ∷ y) → (a ≡ b) × (x ≡ y)
  each_alike none none x y e = (refl, tails e)
  each_alike none (more u b) x y e = absurd (blank_close u b (41 ∷ y) x (sym e))
  each_alike (more t a) none x y e = absurd (blank_close t a (41 ∷ x) y e)
  each_alike (more t a) (more u b) x y e =
      let w = alike t u (show_each a ++ (41 ∷ x)) (show_each b ++ (41 ∷ y)) (after_blank t u a b x y e) in
      let v = each_alike a b x y w.1 in
      (ap₂ more w.0 v.0, v.1)

-- Trees that print alike are one tree: in every production number, child count, leaf's terminal and leaf's bytes.
pub one_tree : (t u : Tree) → show t ≡ show u → t ≡ u
one_tree t u e = (alike t u [] [] (ap (λ (l : List ℕ). l ++ []) e)).0

-- What was printed is the one tree that stands.
pub record PrintedTree (text words : List ℕ) (room : ℕ) : Type 0 where
  pub tree : Tree
  pub sound : (standing text words nothing).sound ≡ true
  pub alone : (standing text words nothing).trees ≡ tree ∷ []
  pub bytes : (print text words room).written ≡ show tree

refused : (d : Delivery) (code number : ℕ) → d ≡ refuse (suc code) number → d.answer.code ≡ done → ⊥
refused d code number e z = let y = sym (ap (λ (d : Delivery). d.answer.code) e) ∙ z in omega (arith, y)

pub printed_tree : (text words : List ℕ) (room : ℕ) → (print text words room).answer.code ≡ done → PrintedTree text words room
unfolding print print_one print_tree
printed_tree text words room a = go (standing text words nothing).sound refl (standing text words nothing).trees refl
  where
    go : (x : Bool) → (standing text words nothing).sound ≡ x → (ts : List Tree) → (standing text words nothing).trees ≡ ts → PrintedTree text words room
    go false f ts g = absurd (refused (print text words room) 13 0 (simp (print, f)) a)
    go true f [] g = absurd (refused (print text words room) 13 0 (simp (print, f, g, print_one)) a)
    go true f (t ∷ u ∷ others) g = absurd (refused (print text words room) 13 0 (simp (print, f, g, print_one)) a)
    go true f (t ∷ []) g = deep (ltb most_nodes (depth t)) refl (ltb room (length (show t))) refl
      where
        deep : (x : Bool) → ltb most_nodes (depth t) ≡ x → (y : Bool) → ltb room (length (show t)) ≡ y → PrintedTree text words room
        deep true h y k = absurd (refused (print text words room) 14 0 (simp (print, f, g, print_one, print_tree, h)) a)
        deep false h true k = absurd (refused (print text words room) 2 (min (length (show t)) greatest_number) (simp (print, f, g, print_one, print_tree, h, deliver_none (show t) room (ltb-true room _ k))) a)
        deep false h false k = record {
          tree = t;
          sound = f;
          alone = g;
          bytes = simp (print, f, g, print_one, print_tree, h, deliver_all (show t) room (ltb-false room _ k));
        }

-- .. and so of all words over all texts that are printed: where the printouts are equal, so are the trees.
module _ (text words text' words' : List ℕ) (room room' : ℕ) (a : (print text words room).answer.code ≡ done)
    (b : (print text' words' room').answer.code ≡ done) (e : (print text words room).written ≡ (print text' words' room').written) where
  pub never_alike : (standing text words nothing).trees ≡ (standing text' words' nothing).trees
  never_alike =
      let p = printed_tree text words room a in
      let q = printed_tree text' words' room' b in
      p.alone ∙ ap (λ (t : Tree). t ∷ []) (one_tree p.tree q.tree (sym p.bytes ∙ e ∙ q.bytes)) ∙ sym q.alone
