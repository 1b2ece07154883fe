-- The stack of the parse is a way of edges from state 0, with a tree on each edge, for a pack that passes K4 to K6: a reduction finds its
-- right-hand side on top and a goto below it, and an accept finds one tree of the start symbol. Assumes nothing.
use mathlib.Core.Path.{◌≡◌, refl, sym, ap, ◌∙◌}
use mathlib.Core.List.{List, [], ◌∷◌, ◌++◌, append_assoc, append-nil}
use Prim.Native.Nat.{ℕ, zero, suc, ◌+◌, ◌*◌, ◌-◌, ◌<◌, ◌≤◌}
use native.Mathlib.Numerals.{add-one}
use native.Mathlib.Omega.{arith}
use lib.ListN.{length, drop, length-drop}
use lib.Seq.{drop-drop}
use Rattle.pack.specs.Image.{terminals, productions, states, lhs, len, symbol, symbols_from, right_side, act, goto, start_symbol}
use Rattle.shape.proofs.Good.{good_laid}
use Rattle.shape.proofs.GoodParser.{good_goto, good_lhs, good_shift}
use Rattle.parse.specs.Parse.{top, leaf_record, node_record}
use Rattle.conditions.specs.Edges.{Edge, shifts, goes, Back, here, along}
use Rattle.conditions.specs.Conditions.{K5, K6, Reduces, Passes}
use Rattle.promise.specs.Derivation.{Trees, none, leaf, node, Stands, bottom, push}

-- Trees beside trees.
pub join : {img xs ys a b : List ℕ} {r v u : ℕ} → Trees img r xs a v → Trees img v ys b u → Trees img r (xs ++ ys) (a ++ b) u
join none k = k
join (leaf start size l e t) k = leaf start size l e (join t k)
join {img} {b = b} (node {r = r} {p = p} {children = c} {words = ws} l kids d e t) k =
    rw (append_assoc c (node_record img p r ++ ws) b) (node l kids d e (join t k))

-- What lies below a state that is not the lowest.
record Below (img : List ℕ) (v : ℕ) (rest words : List ℕ) : Type 0 where
  u : ℕ
  x : ℕ
  others : List ℕ
  before : List ℕ
  tree : List ℕ
  there : rest ≡ u ∷ others
  path : Stands img (u ∷ others) before
  trees : Trees img u (x ∷ []) tree v
  split : words ≡ before ++ tree

below : {img rest words : List ℕ} {v : ℕ} → Stands img (v ∷ rest) words → (v ≡ 0 → ⊥) → Below img v rest words
below bottom n = absurd (n refl)
below (push {u = u} {x = x} {rest = rest} {words = ws} {tree = ts} p t) n =
    record { u = u; x = x; others = rest; before = ws; tree = ts; there = refl; path = p; trees = t; split = refl }

drop_tail : (i u : ℕ) (l rest : List ℕ) → drop i l ≡ u ∷ rest → drop (suc i) l ≡ rest
drop_tail i u l rest e = rw (← add-one i) (sym (drop-drop 1 i l) ∙ ap (λ (k : List ℕ). drop 1 k) e)

drop_height : (i u : ℕ) (l rest : List ℕ) → drop i l ≡ u ∷ rest → i < length l
drop_height i u l rest e = omega (arith, length-drop i l, ap length e)

module _ (img : List ℕ) (passes : Passes img) where
  edge : {u x v : ℕ} {tree : List ℕ} → u < states img → Trees img u (x ∷ []) tree v → Edge img u x v
  edge l (leaf start size lt e none) = shifts l lt e
  edge l (node {p = p} lp kids d e none) = goes l (good_lhs img passes.good p lp) e

  target : {u x v : ℕ} → Edge img u x v → v < states img
  target {u} {x} {v} (shifts l lt e) = (good_shift img passes.good u x v l lt e).1
  target {u} {v = v} (goes {n = n} l ln e) = omega (arith, good_goto img passes.good u n l ln)

  -- Every state of the stack is one.
  pub is_state : {s : ℕ} {rest words : List ℕ} → Stands img (s ∷ rest) words → s < states img
  is_state bottom = omega (arith, good_laid img passes.good)
  is_state (push p t) = target (edge (is_state p) t)

  -- State 0 is the lowest alone.
  lowest : {s : ℕ} {rest words : List ℕ} → Stands img (s ∷ rest) words → s ≡ 0 → (rest ≡ []) × (words ≡ [])
  lowest bottom e = (refl, refl)
  lowest (push {u = u} {v = v} {x = x} p t) e =
      let g = edge (is_state p) t in
      absurd ((passes.k4 v (target g)).not_start u x g e)

  module _ (s p : ℕ) (rest words : List ℕ) (path : Stands img (s ∷ rest) words) (reduces : Reduces img s p) (lp : p < productions img) where
    -- The stack without its i highest states.
    record Popped (i : ℕ) : Type 0 where
      u : ℕ
      others : List ℕ
      before : List ℕ
      kids : List ℕ
      there : drop i (s ∷ rest) ≡ u ∷ others
      back : Back img s i u
      lower : Stands img (u ∷ others) before
      trees : Trees img u (symbols_from img p i (len img p - i)) kids s
      split : words ≡ before ++ kids

    pop : (i : ℕ) → i ≤ len img p → Popped i
    unfolding symbols_from
    pop zero l =
        record { u = s; others = rest; before = words; kids = []; there = refl; back = here; lower = path; trees = none; split = sym (append-nil words) }
    pop (suc i) l = go (pop i (omega arith))
      where
        k5 : K5 img s p
        k5 = passes.k5 s p (is_state path) lp reduces

        go : Popped i → Popped (suc i)
        go o = further (below o.lower (k5.not_start i o.u l o.back))
          where
            suffix : (x : ℕ) {u : ℕ} {ws : List ℕ} → x ≡ symbol img p (len img p - 1 - i) → Trees img u (x ∷ symbols_from img p i (len img p - i)) ws s
                → Trees img u (symbols_from img p (suc i) (len img p - suc i)) ws s
            suffix x e t =
                let a : len img p - 1 - i ≡ len img p - suc i = omega arith in
                let b : len img p - i ≡ len img p - suc i + 1 = omega arith in
                rw (e, a, b) at t

            further : Below img o.u o.others o.before → Popped (suc i)
            further b =
                let g = edge (is_state b.path) b.trees in
                record {
                  u = b.u;
                  others = b.others;
                  before = b.before;
                  kids = b.tree ++ o.kids;
                  there = drop_tail i o.u (s ∷ rest) o.others o.there ∙ b.there;
                  back = along o.back g;
                  lower = b.path;
                  trees = suffix b.x (k5.on_symbol i o.u b.u b.x l o.back g) (join b.trees o.trees);
                  split = o.split ∙ rw (b.split, append_assoc b.before b.tree o.kids);
                }

    -- A reduction finds enough states and a goto, and puts one tree for the right-hand side's trees.
    pub record Reduced : Type 0 where
      pub enough : len img p < length (s ∷ rest)
      pub back : Back img s (len img p) (top (drop (len img p) (s ∷ rest)))
      pub v : ℕ
      pub cell : goto img (top (drop (len img p) (s ∷ rest))) (lhs img p) ≡ suc v
      pub after : Stands img (v ∷ drop (len img p) (s ∷ rest)) (words ++ node_record img p (top (drop (len img p) (s ∷ rest))))

    pub reduced : Reduced
    reduced = go (pop (len img p) (omega arith))
      where
        go : Popped (len img p) → Reduced
        go o = found (goto img o.u (lhs img p)) refl
          where
            whole : Trees img o.u (right_side img p) o.kids s
            whole = let z : len img p - len img p ≡ 0 = omega arith in rw z at o.trees

            found : (c : ℕ) → goto img o.u (lhs img p) ≡ c → Reduced
            found zero e = absurd ((passes.k5 s p (is_state path) lp reduces).has_goto o.u o.back e)
            found (suc v) e =
                record {
                  enough = drop_height (len img p) o.u (s ∷ rest) o.others o.there;
                  back = rw o.there o.back;
                  v = v;
                  cell = rw o.there e;
                  after = rw (o.there, o.split, append_assoc o.before o.kids (node_record img p o.u)) (push o.lower (node lp whole reduces (e ∙ one) none));
                }
              where
                one : suc v ≡ 1 + v
                one = omega arith

  -- An accept finds one tree of the start symbol, on state 0.
  pub accepts : {s : ℕ} {rest words : List ℕ} → Stands img (s ∷ rest) words → act img s 0 ≡ 1 → (rest ≡ 0 ∷ []) × Trees img 0 (start_symbol ∷ []) words s
  accepts {s} {rest} {words} path e = go (below path k6.not_start)
    where
      k6 : K6 img s
      k6 = passes.k6 s (is_state path) e

      go : Below img s rest words → (rest ≡ 0 ∷ []) × Trees img 0 (start_symbol ∷ []) words s
      go b =
          let g = edge (is_state b.path) b.trees in
          let z = k6.from_start b.u b.x g in
          let y = k6.on_start_symbol b.u b.x g in
          let l = lowest b.path z in
          (b.there ∙ rw (z, l.0), rw (b.split, l.1) (rw (z, y) at b.trees))

  -- A shift puts a leaf on top.
  pub shifted : {s v t : ℕ} {rest words : List ℕ} (start size : ℕ) → Stands img (s ∷ rest) words → t < terminals img → act img s t ≡ 2 + 2 * v
      → Stands img (v ∷ s ∷ rest) (words ++ leaf_record t start size s)
  shifted start size path l e = push path (leaf start size l e none)
