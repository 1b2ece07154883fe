-- Laws of the walk back of K5, as the code comes by them. Assumes nothing.
use mathlib.Core.Path.{◌≡◌, refl, sym, ap, ap₂, ◌∙◌}
use mathlib.Core.Bool.{Bool, true, false, ◌&&◌}
use mathlib.Core.List.{List}
use Prim.Native.Nat.{ℕ, zero, suc, ◌+◌, ◌-◌, ◌<◌, ◌≤◌}
use native.Mathlib.Numerals.{add-one}
use native.Mathlib.Omega.{arith}
use lib.Dec.{eqb, leb, ltb}
use lib.ListN.{length, get_or}
use borrow.Author.Tests.{le-leb, lt-ltb, le-ltb, eqb-true, leb-true, leb-false, ltb-true}
use Rattle.numbers.specs.Verdicts.{Good}
use Rattle.pack.specs.Image.{most_symbols, nonterminals, productions, states, lhs, len, symbol, goto}
use Rattle.pack.specs.Laid.{Laid}
use Rattle.shape.specs.Shape.{shape}
use Rattle.shape.proofs.GoodParser.{good_len, good_lhs}
use Rattle.conditions.specs.Tests.{all_below, some_below, implies}
use Rattle.conditions.specs.Edges.{symbols, leads, enters, only_on, reached}
use Rattle.conditions.specs.Conditions.{steps, ends}
use Rattle.conditions.proofs.TestLaws.{alike, false-true, and_left, and_right, and_both, implies_gives, implies_all, all_each, all_true, all_false, some_one, some_true, some_false}
use Rattle.conditions.proofs.EdgeLaws.{enters_by, edge_on}
use Rattle.edges.specs.Rows.{bit_at, all_in, only_in, joined, Made}
use Rattle.edges.specs.Tables.{Sources, Carried, Goers}
use Rattle.edges.proofs.RowLaws.{some_same, some_past}
use Rattle.walkback.specs.Walked.{Walked}

-- A production of a pack has few symbols, and its left side is a nonterminal.
pub len_most : (img : List ℕ) → shape img ≡ Good → (p : ℕ) → p < productions img → len img p ≤ most_symbols
len_most img good p l = good_len img good p l

pub lhs_most : (img : List ℕ) → shape img ≡ Good → (p : ℕ) → p < productions img → lhs img p < nonterminals img
lhs_most img good p l = good_lhs img good p l

-- The walk back, step by step.
module _ (img : List ℕ) (laid : Laid img) (s : ℕ) (ls : s < states img) where
  small : (u : ℕ) → u < states img → u < 128
  small u l = omega (arith, laid.sized.s_most)

  pub walked_start : {row after into : List ℕ} → length into ≡ 128 → Made row 0 (λ u. eqb u s) after → Walked img s 0 after into
  unfolding reached
  walked_start {row} {after} {into} long m = record {
    size = m.size;
    into_size = long;
    each = λ i u li lu. go i u li lu (eqb u s) refl;
    symbols = λ i x l lx. absurd (omega arith);
  }
    where
      go : (i u : ℕ) → i ≤ 0 → u < 128 → (b : Bool) → eqb u s ≡ b → bit_at after i u ≡ (ltb u (states img) && reached img s i u)
      go zero u li lu true e =
          let z : u ≡ s = eqb-true u s e in
          m.new u lu ∙ rw (e, z, lt-ltb s (states img) ls)
      go zero u li lu false e = m.new u lu ∙ rw e (sym (no_one (ltb u (states img))))
        where
          no_one : (x : Bool) → (x && false) ≡ false
          no_one true = refl
          no_one false = refl
      go (suc i) u li lu b e = absurd (omega arith)

  pub walked_less : {d i : ℕ} {back into : List ℕ} → i ≤ d → Walked img s d back into → Walked img s i back into
  walked_less l w = record { size = w.size; into_size = w.into_size; each = λ j u lj lu. w.each j u (omega arith) lu; symbols = λ j x lj lx. w.symbols j x (omega arith) lx }

  module _ {from on : List ℕ} (sources : Sources img (states img) from) (carried : Carried img (states img) on) {d : ℕ} {back into : List ℕ} (w : Walked img s d back into) where
    here : (v : ℕ) → v < states img → bit_at back d v ≡ reached img s d v
    here v lv = w.each d v (omega arith) (small v lv) ∙ rw (lt-ltb v (states img) lv)

    -- No number but a state's is in a set of the walk.
    only_states : (row : List ℕ) (y : ℕ) → joined row (get_or back d 0) y ≡ some_below (states img) (λ v. bit_at back d v && bit_at row v y)
    unfolding joined
    only_states row y =
        sym (some_past (states img) 128 (λ v. bit_at back d v && bit_at row v y) laid.sized.s_most (λ v l m. rw (w.each d v (omega arith) m, le-ltb v (states img) l)))

    both_ways : (a b : Bool) → (a && b) ≡ elim b as (λ x. Bool) [ true ↦ a | false ↦ false ]
    both_ways true true = refl
    both_ways true false = refl
    both_ways false true = refl
    both_ways false false = refl

    stepped : (u : ℕ) → u < 128 → (b : Bool) → ltb u (states img) ≡ b → joined from (get_or back d 0) u ≡ (ltb u (states img) && reached img s (d + 1) u)
    unfolding reached
    stepped u lu true e =
        only_states from u ∙ rw (e, add-one d)
        (some_same (states img) (λ v. bit_at back d v && bit_at from v u) (λ v. elim (leads img u v) [ true ↦ reached img s d v | false ↦ false ])
        (λ v lv. rw (here v lv, sources.each v u (small v lv) lu, e) (both_ways (reached img s d v) (leads img u v))))
    stepped u lu false e = only_states from u ∙ rw e (some_false (states img) (λ v. bit_at back d v && bit_at from v u) (λ v lv. rw (sources.each v u (small v lv) lu, e) (no_one (bit_at back d v))))
      where
        no_one : (x : Bool) → (x && false) ≡ false
        no_one true = refl
        no_one false = refl

    collected : (x : ℕ) → x < 128 → joined on (get_or back d 0) x ≡ some_below (states img) (λ v. reached img s d v && enters img v x)
    unfolding enters
    collected x lx =
        only_states on x ∙ some_same (states img) (λ v. bit_at back d v && bit_at on v x) (λ v. reached img s d v && enters img v x)
        (λ v lv. ap₂ (λ (a b : Bool). a && b) (here v lv) (carried.each v x (small v lv) lx))

    pub walked_more : {back' into' : List ℕ} → Made into d (joined on (get_or back d 0)) into' → Made back (d + 1) (joined from (get_or back d 0)) back' → Walked img s (d + 1) back' into'
    walked_more {back'} {into'} m t = record {
      size = t.size;
      into_size = m.size;
      each = λ i u li lu. go i u li lu (leb i d) refl;
      symbols = λ i x li lx. on_go i x li lx (leb d i) refl;
    }
      where
        go : (i u : ℕ) → i ≤ d + 1 → u < 128 → (b : Bool) → leb i d ≡ b → bit_at back' i u ≡ (ltb u (states img) && reached img s i u)
        go i u li lu true e = let l = leb-true i d e in t.kept i u (omega arith) lu ∙ w.each i u l lu
        go i u li lu false e =
            let z : i ≡ d + 1 = omega (arith, leb-false i d e) in
            rw z (t.new u lu ∙ stepped u lu (ltb u (states img)) refl)

        on_go : (i x : ℕ) → i < d + 1 → x < 128 → (b : Bool) → leb d i ≡ b → bit_at into' i x ≡ some_below (states img) (λ v. reached img s i v && enters img v x)
        on_go i x li lx true e =
            let z : i ≡ d = omega (arith, leb-true d i e) in
            rw z (m.new x lx ∙ collected x lx)
        on_go i x li lx false e = let l = leb-false d i e in m.kept i x (omega arith) lx ∙ w.symbols i x (omega arith) lx

-- One step of production p, and the end, for a walk as deep as p is long.
module _ (img : List ℕ) (laid : Laid img) (s p : ℕ) {back into : List ℕ} (w : Walked img s (len img p) back into) where
  before : (i u : ℕ) → i ≤ len img p → u < states img → bit_at back i u ≡ reached img s i u
  before i u li lu = w.each i u li (omega (arith, laid.sized.s_most)) ∙ rw (lt-ltb u (states img) lu)

  module _ (i : ℕ) (li : i < len img p) where
    one : ℕ → Bool
    one u = implies (reached img s i u) (leb 1 u && only_on img (symbol img p (len img p - 1 - i)) u)

    pub step_zero : {b : Bool} → b ≡ bit_at back i 0 → b ≡ true → false ≡ steps img s p i
    unfolding steps implies
    step_zero e f =
        let least : 0 < states img = omega (arith, laid.sized.s_least) in
        let r : reached img s i 0 ≡ true = sym (before i 0 (omega arith) least) ∙ sym e ∙ f in
        sym (all_false (states img) (λ u. implies (reached img s i u) (leb 1 u && only_on img (symbol img p (len img p - 1 - i)) u)) 0 least (rw r))

    pub step_only : {b r : Bool} {x n : ℕ} → b ≡ bit_at back i 0 → b ≡ false → r ≡ only_in (get_or into i 0) x → x ≡ symbol img p (n - 1 - i) → n ≡ len img p → r ≡ steps img s p i
    unfolding one steps all_in only_on
    step_only {x = x} e f er ex en =
        er ∙ alike (all_below 128 (λ y. implies (bit_at into i y) (eqb y x))) (all_below (states img) one) forth back'
      where
        x_is : x ≡ symbol img p (len img p - 1 - i)
        x_is = ex ∙ ap (λ (k : ℕ). symbol img p (k - 1 - i)) en

        no_start : (u : ℕ) → u < states img → reached img s i u ≡ true → 1 ≤ u
        no_start zero lu r = false-true (sym f ∙ (e ∙ (before i 0 (omega arith) lu ∙ r)))
        no_start (suc u) lu r = omega arith

        forth : all_below 128 (λ y. implies (bit_at into i y) (eqb y x)) ≡ true → all_below (states img) one ≡ true
        forth a = all_true (states img) one (λ u lu. implies_all (reached img s i u) (leb 1 u && only_on img (symbol img p (len img p - 1 - i)) u) (λ r.
            and_both (leb 1 u) (only_on img (symbol img p (len img p - 1 - i)) u) (le-leb 1 u (no_start u lu r))
            (all_true (symbols img) (λ y. implies (enters img u y) (eqb y (symbol img p (len img p - 1 - i)))) (λ y ly. implies_all (enters img u y) (eqb y (symbol img p (len img p - 1 - i))) (λ g.
            let few : y < 128 = omega (arith, laid.sized.n_most) in
            rw x_is at (implies_gives (bit_at into i y) (eqb y x) (all_each 128 (λ y. implies (bit_at into i y) (eqb y x)) a y few)
            (w.symbols i y li few ∙ some_true (states img) (λ v. reached img s i v && enters img v y) u lu (and_both (reached img s i u) (enters img u y) r g))))))))

        back' : all_below (states img) one ≡ true → all_below 128 (λ y. implies (bit_at into i y) (eqb y x)) ≡ true
        back' a = all_true 128 (λ y. implies (bit_at into i y) (eqb y x)) (λ y ly. implies_all (bit_at into i y) (eqb y x) (λ b. came a y (some_one (states img) (λ v. reached img s i v && enters img v y) (sym (w.symbols i y li ly) ∙ b))))
          where
            came : all_below (states img) one ≡ true → (y : ℕ) → (v : ℕ) × (v < states img) × ((reached img s i v && enters img v y) ≡ true) → eqb y x ≡ true
            came a y q =
                let v = q.0 in
                let r = and_left (reached img s i v) (enters img v y) q.2 in
                let g = and_right (reached img s i v) (enters img v y) q.2 in
                let o = and_right (leb 1 v) (only_on img (symbol img p (len img p - 1 - i)) v) (implies_gives (reached img s i v) (leb 1 v && only_on img (symbol img p (len img p - 1 - i)) v) (all_each (states img) one a v q.1) r) in
                rw x_is (implies_gives (enters img v y) (eqb y (symbol img p (len img p - 1 - i))) (all_each (symbols img) (λ y. implies (enters img v y) (eqb y (symbol img p (len img p - 1 - i)))) o y (edge_on img laid.sized.t_most (enters_by img laid.sized.t_most g).1)) g)

  pub end_is : {goes : List ℕ} {r : Bool} {n a : ℕ} → Goers img (states img) goes → lhs img p < nonterminals img → n ≡ len img p → a ≡ lhs img p → r ≡ all_in (get_or back n 0) (bit_at goes a) → r ≡ ends img s p
  unfolding ends all_in
  end_is {goes} {r} {n} {a} g la en ea er =
      er ∙ ap₂ (λ (k b : ℕ). all_below 128 (λ u. implies (bit_at back k u) (bit_at goes b u))) en ea
      ∙ alike (all_below 128 (λ u. implies (bit_at back (len img p) u) (bit_at goes (lhs img p) u))) (all_below (states img) (λ u. implies (reached img s (len img p) u) (leb 1 (goto img u (lhs img p)))))
      (λ e. all_true (states img) (λ u. implies (reached img s (len img p) u) (leb 1 (goto img u (lhs img p)))) (λ u lu.
      let few : u < 128 = omega (arith, laid.sized.s_most) in
      rw (before (len img p) u (omega arith) lu, g.each (lhs img p) u la few, lt-ltb u (states img) lu) at (all_each 128 (λ u. implies (bit_at back (len img p) u) (bit_at goes (lhs img p) u)) e u few)))
      (λ e. all_true 128 (λ u. implies (bit_at back (len img p) u) (bit_at goes (lhs img p) u)) (λ u lu. implies_all (bit_at back (len img p) u) (bit_at goes (lhs img p) u) (λ b.
      let f = sym (w.each (len img p) u (omega arith) lu) ∙ b in
      let l = and_left (ltb u (states img)) (reached img s (len img p) u) f in
      let r = and_right (ltb u (states img)) (reached img s (len img p) u) f in
      g.each (lhs img p) u la lu ∙ and_both (ltb u (states img)) (leb 1 (goto img u (lhs img p))) l
      (implies_gives (reached img s (len img p) u) (leb 1 (goto img u (lhs img p))) (all_each (states img) (λ u. implies (reached img s (len img p) u) (leb 1 (goto img u (lhs img p)))) e u (ltb-true u (states img) l)) r))))
