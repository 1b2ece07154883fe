-- Laws of what the check works out once for a pack: each table, one state more, and before the first. Assumes nothing.
use mathlib.Core.Path.{◌≡◌, refl, sym, ◌∙◌}
use mathlib.Core.Bool.{Bool, true, false, ◌&&◌}
use mathlib.Core.List.{List}
use Prim.Native.Nat.{ℕ, zero, suc, ◌+◌, ◌*◌, ◌-◌, ◌/◌, ◌%◌, ◌<◌, ◌≤◌}
use native.Mathlib.Omega.{arith}
use lib.Dec.{eqb, leb, ltb}
use lib.ListN.{replicate, length-replicate}
use borrow.Author.Tests.{eq-eqb, ne_eqb, le-leb, lt-leb, lt-ltb, le-ltb, eqb-true, eqb-false, leb-true, ltb-true, ltb-false}
use Rattle.numbers.specs.Verdicts.{Good}
use Rattle.sets.specs.Sets.{member}
use Rattle.pack.specs.Image.{terminals, nonterminals, states, first_nonterminal, act, goto}
use Rattle.shape.specs.Shape.{shape}
use Rattle.shape.proofs.Good.{good_laid}
use Rattle.shape.proofs.GoodParser.{good_goto, good_shift}
use Rattle.conditions.specs.Tests.{some_below}
use Rattle.conditions.specs.Edges.{symbols, shift_of, edge_to, is_edge, leads}
use Rattle.conditions.specs.Conditions.{reduces}
use Rattle.conditions.proofs.TestLaws.{alike, and_left, and_right, some_one, some_true}
use Rattle.conditions.proofs.EdgeLaws.{shift_code}
use Rattle.edges.specs.Rows.{either, PutOne, PutEach, Whole}
use Rattle.edges.specs.Tables.{reduce_of, present, Sources, Carried, Goers}
use Rattle.edges.proofs.RowLaws.{some_more, below_other, empty_row, whole_none, whole_same}

-- What a code reduces by, and the nonterminal of a goto that is there.
pub reduce_code : (code p : ℕ) → eqb (reduce_of code) (1 + p) ≡ eqb code (3 + 2 * p)
unfolding reduce_of
reduce_code code p = go (eqb (code % 2) 0) refl (eqb code (3 + 2 * p)) refl
  where
    go : (a : Bool) → eqb (code % 2) 0 ≡ a → (b : Bool) → eqb code (3 + 2 * p) ≡ b → eqb (reduce_of code) (1 + p) ≡ eqb code (3 + 2 * p)
    go true e true f = absurd (omega (arith, eqb-true (code % 2) 0 e, eqb-true code (3 + 2 * p) f))
    go true e false f = simp (reduce_of, e, f) (ne_eqb 0 (1 + p) (λ z. omega arith))
    go false e true f = simp (reduce_of, e, f) (eq-eqb (code / 2) (1 + p) (omega (arith, eqb-true code (3 + 2 * p) f)))
    go false e false f = simp (reduce_of, e, f) (ne_eqb (code / 2) (1 + p) (λ z. eqb-false code (3 + 2 * p) f (odd (eqb-false (code % 2) 0 e) z)))
      where
        odd : (code % 2 ≡ 0 → ⊥) → code / 2 ≡ 1 + p → code ≡ 3 + 2 * p
        odd n z = omega arith

pub present_is : (cell a b : ℕ) → eqb (present cell a) (1 + b) ≡ (leb 1 cell && eqb a b)
unfolding present
present_is zero a b = ne_eqb 0 (1 + b) (λ z. omega arith)
present_is (suc c) a b =
    simp (present, ne_eqb (suc c) 0 (λ z. omega arith), le-leb 1 (suc c) (omega arith))
    (alike (eqb (1 + a) (1 + b)) (eqb a b) (λ e. eq-eqb a b (omega (arith, eqb-true (1 + a) (1 + b) e))) (λ e. eq-eqb (1 + a) (1 + b) (omega (arith, eqb-true a b e))))

pub present_within : (cell a : ℕ) → a < 128 → present cell a ≤ 128
unfolding present
present_within zero a l = omega arith
present_within (suc c) a l = simp (present, ne_eqb (suc c) 0 (λ z. omega arith)) (omega arith)

-- The edge on a symbol, by its cell: a shift, a goto, and none on a number between the terminals and the nonterminals.
module _ (img : List ℕ) (s x : ℕ) where
  pub edge_shift : x < terminals img → shift_of (act img s x) ≡ edge_to img s x
  unfolding edge_to
  edge_shift l = simp (edge_to, lt-ltb x (terminals img) l)

  pub edge_goto : terminals img ≤ 64 → 64 ≤ x → x < symbols img → goto img s (x - 64) ≡ edge_to img s x
  unfolding edge_to
  edge_goto few l m = simp (edge_to, le-ltb x (terminals img) (omega arith), le-leb 64 x l, lt-ltb x (symbols img) m, ◌&&◌)

  pub edge_none : terminals img ≤ x → x < 64 → edge_to img s x ≡ 0
  unfolding edge_to
  edge_none l m = simp (edge_to, le-ltb x (terminals img) l, lt-leb 64 x m, ◌&&◌)

-- The productions that row s reduces by: in the first t columns.
module _ (img : List ℕ) (s : ℕ) where
  unfoldable pub reduces_below : ℕ → ℕ → Bool
  reduces_below t p = some_below t (λ x. eqb (act img s x) (3 + 2 * p))

  pub reduces_none : Whole (reduces_below 0) 0
  unfolding reduces_below some_below
  reduces_none = whole_none (λ y. refl)

  pub reduces_more : (t : ℕ) {code to by set : ℕ} → Whole (reduces_below t) by → code ≡ act img s t → to ≡ reduce_of code → Whole (λ y. either (member by y) (eqb to (1 + y))) set → Whole (reduces_below (t + 1)) set
  unfolding reduces_below
  reduces_more t b e f w = whole_same (λ y l. rw (b.each y l, f, e, reduce_code (act img s t) y) (sym (some_more t (λ x. eqb (act img s x) (3 + 2 * y))))) w

  pub reduces_all : {set : ℕ} → Whole (reduces_below (terminals img)) set → Whole (reduces img s) set
  unfolding reduces_below reduces
  reduces_all w = w

-- Where an edge leads is within the states.
module _ (img : List ℕ) (good : shape img ≡ Good) where
  pub edge_within : (s x : ℕ) → s < states img → edge_to img s x ≤ 128
  unfolding edge_to
  edge_within s x ls = go (ltb x (terminals img)) refl (leb first_nonterminal x && ltb x (symbols img)) refl
    where
      shifted : x < terminals img → (r : ℕ) → shift_of (act img s x) ≡ r → r ≤ 128
      shifted l zero e = omega arith
      shifted l (suc v) e =
          let f : shift_of (act img s x) ≡ 1 + v = omega arith in
          omega (arith, (good_shift img good s x v ls l (shift_code (act img s x) v f)).1, (good_laid img good).sized.s_most)

      go : (a : Bool) → ltb x (terminals img) ≡ a → (b : Bool) → (leb first_nonterminal x && ltb x (symbols img)) ≡ b → edge_to img s x ≤ 128
      go true e b f = simp (edge_to, e) (shifted (ltb-true _ _ e) _ refl)
      go false e false f = simp (edge_to, e, f) (omega arith)
      go false e true f =
          let l : 64 ≤ x = leb-true _ _ (and_left (leb first_nonterminal x) (ltb x (symbols img)) f) in
          let m : x < 64 + nonterminals img = ltb-true _ _ (and_right (leb first_nonterminal x) (ltb x (symbols img)) f) in
          simp (edge_to, e, f) (omega (arith, good_goto img good s (x - first_nonterminal) ls (omega arith), (good_laid img good).sized.s_most))

  no_edge : (s x v : ℕ) → symbols img ≤ x → is_edge img s x v ≡ false
  unfolding is_edge edge_to
  no_edge s x v l =
      let high : ltb x (terminals img) ≡ false = le-ltb x (terminals img) (omega (arith, (good_laid img good).sized.t_most)) in
      let past : ltb x (symbols img) ≡ false = le-ltb x (symbols img) l in
      let low : leb first_nonterminal x ≡ true = le-leb first_nonterminal x (omega arith) in
      simp (is_edge, edge_to, high, past, low, ◌&&◌) (ne_eqb 0 (1 + v) (λ z. omega arith))

  -- The symbols, of one state more.
  pub carried_more : {s : ℕ} {row after : List ℕ} → Carried img s row → PutEach (edge_to img s) (symbols img) row after → Carried img (s + 1) after
  unfolding is_edge
  carried_more {s} t p = record {
    size = p.size ∙ t.size;
    each = λ v x lv lx. p.each v x lv lx ∙ rw (t.each v x lv lx, some_more s (λ w. is_edge img w x v)) (one v x (ltb x (symbols img)) refl);
  }
    where
      one : (v x : ℕ) (c : Bool) → ltb x (symbols img) ≡ c
          → either (some_below s (λ w. is_edge img w x v)) (ltb x (symbols img) && is_edge img s x v) ≡ either (some_below s (λ w. is_edge img w x v)) (is_edge img s x v)
      one v x true e = rw e
      one v x false e = rw (e, no_edge s x v (ltb-false _ _ e))

-- A set of states that pass a test, of one state more.
below_one_more : (u s : ℕ) (f : ℕ → Bool) (b : Bool) → eqb u s ≡ b → either (ltb u s && f u) (eqb u s && f s) ≡ (ltb u (s + 1) && f u)
unfolding either
below_one_more u s f true e =
    let z : u ≡ s = eqb-true u s e in
    rw (z, le-ltb s s (omega arith), lt-ltb s (s + 1) (omega arith), eq-eqb s s refl)
below_one_more u s f false e = rw (e, below_other u s e) (same_again (ltb u s && f u))
  where
    same_again : (x : Bool) → either x (false && f s) ≡ x
    same_again true = refl
    same_again false = refl

module _ (img : List ℕ) {s : ℕ} {row after : List ℕ} where
  pub sources_more : Sources img s row → PutOne (edge_to img s) s (symbols img) row after → Sources img (s + 1) after
  unfolding leads is_edge
  sources_more t p = record {
    size = p.size ∙ t.size;
    each = λ v u lv lu. p.each v u lv lu ∙ rw (t.each v u lv lu) (below_one_more u s (λ w. some_below (symbols img) (λ x. eqb (edge_to img w x) (1 + v))) (eqb u s) refl);
  }

  pub goers_more : nonterminals img ≤ 32 → Goers img s row → PutOne (λ (a : ℕ). present (goto img s a) a) s (nonterminals img) row after → Goers img (s + 1) after
  goers_more few t p = record {
    size = p.size ∙ t.size;
    each = λ a u la lu. p.each a u (omega arith) lu ∙ rw (t.each a u la lu, one a la) (below_one_more u s (λ w. leb 1 (goto img w a)) (eqb u s) refl);
  }
    where
      one : (a : ℕ) → a < nonterminals img → some_below (nonterminals img) (λ b. eqb (present (goto img s b) b) (1 + a)) ≡ leb 1 (goto img s a)
      one a la = alike (some_below (nonterminals img) (λ b. eqb (present (goto img s b) b) (1 + a))) (leb 1 (goto img s a)) forth back
        where
          forth : some_below (nonterminals img) (λ b. eqb (present (goto img s b) b) (1 + a)) ≡ true → leb 1 (goto img s a) ≡ true
          forth e =
              let r = some_one (nonterminals img) (λ b. eqb (present (goto img s b) b) (1 + a)) e in
              let both = sym (present_is (goto img s r.0) r.0 a) ∙ r.2 in
              let z : r.0 ≡ a = eqb-true r.0 a (and_right (leb 1 (goto img s r.0)) (eqb r.0 a) both) in
              rw z at (and_left (leb 1 (goto img s r.0)) (eqb r.0 a) both)

          back : leb 1 (goto img s a) ≡ true → some_below (nonterminals img) (λ b. eqb (present (goto img s b) b) (1 + a)) ≡ true
          back e = some_true (nonterminals img) (λ b. eqb (present (goto img s b) b) (1 + a)) a la (present_is (goto img s a) a a ∙ rw (e, eq-eqb a a refl))

-- Empty rows, before the first state.
module _ (img : List ℕ) where
  pub no_sources : Sources img 0 (replicate 128 0)
  no_sources = record { size = length-replicate {A = ℕ} 128 0; each = λ v u lv lu. empty_row v u lv lu ∙ rw (le-ltb u 0 (omega arith)) }

  pub none_carried : Carried img 0 (replicate 128 0)
  unfolding some_below
  none_carried = record { size = length-replicate {A = ℕ} 128 0; each = λ v x lv lx. empty_row v x lv lx }

  pub no_goers : nonterminals img ≤ 32 → Goers img 0 (replicate 128 0)
  no_goers few = record { size = length-replicate {A = ℕ} 128 0; each = λ a u la lu. empty_row a u (omega arith) lu ∙ rw (le-ltb u 0 (omega arith)) }
