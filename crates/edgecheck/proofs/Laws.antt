-- Laws of the tests of K4 and K6, as the code comes by them. Assumes nothing.
use mathlib.Core.Path.{◌≡◌, refl, sym, ◌∙◌}
use mathlib.Core.Bool.{Bool, true, false, not, ◌&&◌}
use mathlib.Core.List.{List}
use Prim.Native.Nat.{ℕ, zero, suc, ◌<◌}
use native.Mathlib.Omega.{arith}
use lib.Dec.{eqb, leb, ltb}
use lib.ListN.{get_or}
use borrow.Author.Tests.{ne_eqb, eq-eqb, le-leb, lt-ltb, eqb-true, ltb-true}
use Rattle.pack.specs.Image.{states, act}
use Rattle.pack.specs.Laid.{Laid}
use Rattle.conditions.specs.Tests.{all_below, implies}
use Rattle.conditions.specs.Edges.{symbols, leads, enters, only_on}
use Rattle.conditions.specs.Conditions.{k4, from_start, k6}
use Rattle.conditions.proofs.TestLaws.{alike, false-true, and_left, and_right, and_both, implies_gives, implies_all, all_each, all_true}
use Rattle.conditions.proofs.EdgeLaws.{enters_by, edge_on}
use Rattle.edges.specs.Rows.{bit_at, all_in, only_in, Next}
use Rattle.edges.specs.Tables.{Sources, Carried}

-- A state is not 0.
some_is : (n : ℕ) → leb 1 n ≡ not (eqb n 0)
some_is zero = refl
some_is (suc n) = le-leb 1 (suc n) (omega arith) ∙ sym (rw (ne_eqb (suc n) 0 (λ e. omega arith)))

only_eq : (img : List ℕ) (x v : ℕ) → only_on img x v ≡ true → (y : ℕ) → y < symbols img → enters img v y ≡ true → y ≡ x
unfolding only_on
only_eq img x v o y l g = eqb-true y x (implies_gives (enters img v y) (eqb y x) (all_each (symbols img) (λ y. implies (enters img v y) (eqb y x)) o y l) g)

-- What the symbols on edges in say, as a test of the pack.
module _ (img : List ℕ) (laid : Laid img) {on : List ℕ} (carried : Carried img (states img) on) where
  entered : (v y : ℕ) → enters img v y ≡ true → y < symbols img
  entered v y f = edge_on img laid.sized.t_most (enters_by img laid.sized.t_most f).1

  pub on_only : (v x : ℕ) → v < 128 → only_in (get_or on v 0) x ≡ only_on img x v
  unfolding all_in only_on enters
  on_only v x lv =
      alike (all_below 128 (λ y. implies (bit_at on v y) (eqb y x))) (all_below (symbols img) (λ y. implies (enters img v y) (eqb y x)))
      (λ e. all_true (symbols img) (λ y. implies (enters img v y) (eqb y x)) (λ y l. rw (carried.each v y lv (few y l)) at (all_each 128 (λ y. implies (bit_at on v y) (eqb y x)) e y (few y l))))
      (λ e. all_true 128 (λ y. implies (bit_at on v y) (eqb y x)) (λ y l. implies_all (bit_at on v y) (eqb y x) (λ b.
      let f = sym (carried.each v y lv l) ∙ b in
      implies_gives (enters img v y) (eqb y x) (all_each (symbols img) (λ y. implies (enters img v y) (eqb y x)) e y (entered v y f)) f)))
    where
      few : (y : ℕ) → y < symbols img → y < 128
      few y l = omega (arith, laid.sized.n_most)

  -- K4, by the least symbol on an edge in.
  pub k4_none : (v : ℕ) → v < states img → Next (bit_at on v) 128 0 128 → k4 img v ≡ true
  unfolding k4 enters
  k4_none v lv first = all_true (symbols img) (λ y. implies (enters img v y) (leb 1 v && only_on img y v)) (λ y l. implies_all (enters img v y) (leb 1 v && only_on img y v) (λ f.
      let few : y < 128 = omega (arith, laid.sized.n_most) in
      false-true (sym (first.none y (omega arith) few) ∙ carried.each v y (omega (arith, laid.sized.s_most)) few ∙ f)))

  pub k4_is : (v x : ℕ) {r : Bool} → v < states img → x < 128 → Next (bit_at on v) 128 0 x → r ≡ only_in (get_or on v 0) x → (r && not (eqb v 0)) ≡ k4 img v
  unfolding k4 enters
  k4_is v x {r} lv lx first er =
      alike (r && not (eqb v 0)) (all_below (symbols img) (λ y. implies (enters img v y) (leb 1 v && only_on img y v)))
      (λ b. let o : only_on img x v ≡ true = sym (on_only v x few) ∙ sym er ∙ and_left r (not (eqb v 0)) b in
      all_true (symbols img) (λ y. implies (enters img v y) (leb 1 v && only_on img y v)) (λ y l. implies_all (enters img v y) (leb 1 v && only_on img y v) (λ g.
      let z : y ≡ x = only_eq img x v o y l g in
      and_both (leb 1 v) (only_on img y v) (some_is v ∙ and_right r (not (eqb v 0)) b) (rw z o))))
      (λ a. let f = implies_gives (enters img v x) (leb 1 v && only_on img x v) (all_each (symbols img) (λ y. implies (enters img v y) (leb 1 v && only_on img y v)) a x (entered v x there)) there in
      and_both r (not (eqb v 0)) (er ∙ on_only v x few ∙ and_right (leb 1 v) (only_on img x v) f) (sym (some_is v) ∙ and_left (leb 1 v) (only_on img x v) f))
    where
      few : v < 128
      few = omega (arith, laid.sized.s_most)

      there : enters img v x ≡ true
      there = sym (carried.each v x few lx) ∙ first.there lx

-- The sources of the edges into s are 0 alone.
pub from_only : (img : List ℕ) → Laid img → {from : List ℕ} → Sources img (states img) from → (s : ℕ) → s < 128 → only_in (get_or from s 0) 0 ≡ from_start img s
unfolding all_in from_start
from_only img laid {from} sources s ls =
    alike (all_below 128 (λ y. implies (bit_at from s y) (eqb y 0))) (all_below (states img) (λ r. implies (leads img r s) (eqb r 0)))
    (λ e. all_true (states img) (λ r. implies (leads img r s) (eqb r 0)) (λ r l. implies_all (leads img r s) (eqb r 0) (λ f.
    implies_gives (bit_at from s r) (eqb r 0) (all_each 128 (λ y. implies (bit_at from s y) (eqb y 0)) e r (few r l))
    (sources.each s r ls (few r l) ∙ and_both (ltb r (states img)) (leads img r s) (lt-ltb r (states img) l) f))))
    (λ e. all_true 128 (λ y. implies (bit_at from s y) (eqb y 0)) (λ r l. implies_all (bit_at from s r) (eqb r 0) (λ b.
    let f = sym (sources.each s r ls l) ∙ b in
    implies_gives (leads img r s) (eqb r 0) (all_each (states img) (λ r. implies (leads img r s) (eqb r 0)) e r (ltb-true r (states img) (and_left (ltb r (states img)) (leads img r s) f)))
    (and_right (ltb r (states img)) (leads img r s) f))))
  where
    few : (r : ℕ) → r < states img → r < 128
    few r l = omega (arith, laid.sized.s_most)

-- K6.
module _ (img : List ℕ) (laid : Laid img) {from on : List ℕ} (sources : Sources img (states img) from) (carried : Carried img (states img) on) (s : ℕ) (ls : s < states img) where
  pub k6_none : (act img s 0 ≡ 1 → ⊥) → k6 img s ≡ true
  unfolding k6 implies
  k6_none n = rw (ne_eqb (act img s 0) 1 n)

  pub k6_is : {r t : Bool} → act img s 0 ≡ 1 → r ≡ only_in (get_or on s 0) 64 → t ≡ only_in (get_or from s 0) 0 → (r && (t && not (eqb s 0))) ≡ k6 img s
  unfolding k6 implies
  k6_is {r} {t} e er et =
      sym (rw (eq-eqb (act img s 0) 1 e, some_is s, ← on_only img laid carried s 64 few, ← from_only img laid sources s few, ← er, ← et) (turned (not (eqb s 0)) r t))
    where
      few : s < 128
      few = omega (arith, laid.sized.s_most)

      turned : (a b c : Bool) → (a && (b && c)) ≡ (b && (c && a))
      turned true true true = refl
      turned true true false = refl
      turned true false c = refl
      turned false true true = refl
      turned false true false = refl
      turned false false c = refl

  pub k6_out : {r : Bool} → act img s 0 ≡ 1 → r ≡ only_in (get_or on s 0) 64 → r ≡ false → false ≡ k6 img s
  k6_out {r} e er f = rw f at (k6_is {r = r} e er refl)
