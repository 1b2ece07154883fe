-- The computed edges are the edges, and the computed walk back is the walk back. Assumes nothing.
use mathlib.Core.Path.{◌≡◌, refl}
use mathlib.Core.Bool.{Bool, true, false, ◌&&◌}
use mathlib.Core.List.{List}
use Prim.Native.Nat.{ℕ, zero, suc, ◌+◌, ◌*◌, ◌-◌, ◌/◌, ◌%◌, ◌<◌, ◌≤◌}
use native.Mathlib.Omega.{arith}
use lib.Dec.{eqb, leb, ltb}
use borrow.Author.Tests.{eq-eqb, le-leb, lt-ltb, le-ltb, eqb-true, leb-true, ltb-true}
use Rattle.pack.specs.Image.{terminals, nonterminals, states, act, goto, first_nonterminal}
use Rattle.conditions.specs.Edges.{Edge, shifts, goes, Back, here, along, symbols, shift_of, edge_to, is_edge, leads, enters, only_on, reached}
use Rattle.conditions.proofs.TestLaws.{false-true, and_left, and_right, implies_gives, implies_all, all_each, all_true, some_one, some_true}

-- A code is a shift to v exactly where it is 2 + 2 v.
pub shift_code : (code v : ℕ) → shift_of code ≡ 1 + v → code ≡ 2 + 2 * v
unfolding shift_of
shift_code code v = go (eqb (code % 2) 0) refl
  where
    go : (b : Bool) → eqb (code % 2) 0 ≡ b → elim b as (λ x. ℕ) [ true ↦ code / 2 | false ↦ 0 ] ≡ 1 + v → code ≡ 2 + 2 * v
    go true e h = omega (arith, eqb-true (code % 2) 0 e)
    go false e h = absurd (omega arith)

pub code_shift : (code v : ℕ) → code ≡ 2 + 2 * v → shift_of code ≡ 1 + v
unfolding shift_of
code_shift code v e =
    let even : code % 2 ≡ 0 = omega arith in
    simp (shift_of, eq-eqb (code % 2) 0 even) (omega arith)

-- An edge, of a pack with at most 64 terminals, and of a state below S.
module _ (img : List ℕ) (small : terminals img ≤ 64) where
  pub edge_of : {s x v : ℕ} → s < states img → is_edge img s x v ≡ true → Edge img s x v
  unfolding is_edge edge_to
  edge_of {s} {x} {v} ls e = go (ltb x (terminals img)) refl (eqb-true _ _ e)
    where
      gone : (c : Bool) → (leb first_nonterminal x && ltb x (symbols img)) ≡ c → elim c as (λ b. ℕ) [ true ↦ goto img s (x - first_nonterminal) | false ↦ 0 ] ≡ 1 + v → Edge img s x v
      gone true f h =
          let l : 64 ≤ x = leb-true _ _ (and_left (leb first_nonterminal x) (ltb x (symbols img)) f) in
          let m : x < 64 + nonterminals img = ltb-true _ _ (and_right (leb first_nonterminal x) (ltb x (symbols img)) f) in
          let z : 64 + (x - first_nonterminal) ≡ x = omega arith in
          let a : Edge img s (64 + (x - first_nonterminal)) v = goes {n = x - first_nonterminal} ls (omega arith) h in
          rw z at a
      gone false f h = absurd (omega arith)

      go : (b : Bool) → ltb x (terminals img) ≡ b
          → elim b as (λ c. ℕ) [ true ↦ shift_of (act img s x) | false ↦ elim (leb first_nonterminal x && ltb x (symbols img)) [ true ↦ goto img s (x - first_nonterminal) | false ↦ 0 ] ] ≡ 1 + v → Edge img s x v
      go true f h = shifts ls (ltb-true _ _ f) (shift_code _ _ h)
      go false f h = gone (leb first_nonterminal x && ltb x (symbols img)) refl h

  pub edge_is : {s x v : ℕ} → Edge img s x v → is_edge img s x v ≡ true
  unfolding is_edge edge_to
  edge_is {s} {x} {v} (shifts ls lt e) = eq-eqb (edge_to img s x) (1 + v) (simp (edge_to, lt-ltb _ _ lt) (code_shift _ v e))
  edge_is {s} {x} {v} (goes {n = n} ls ln e) =
      let z : 64 + n - 64 ≡ n = omega arith in
      let high : ltb (64 + n) (terminals img) ≡ false = le-ltb (64 + n) (terminals img) (omega arith) in
      let low : leb 64 (64 + n) ≡ true = le-leb 64 (64 + n) (omega arith) in
      let in-range : ltb (64 + n) (symbols img) ≡ true = lt-ltb (64 + n) (symbols img) (omega arith) in
      eq-eqb (edge_to img s (64 + n)) (1 + v) (simp (edge_to, high, low, in-range, ◌&&◌, z) e)

  pub edge_from : {s x v : ℕ} → Edge img s x v → s < states img
  edge_from (shifts ls lt e) = ls
  edge_from (goes ls ln e) = ls

  pub edge_on : {s x v : ℕ} → Edge img s x v → x < symbols img
  edge_on (shifts ls lt e) = omega arith
  edge_on (goes ls ln e) = omega arith

  -- There is an edge from s to v; one on x into v.
  pub leads_by : {s v : ℕ} → s < states img → leads img s v ≡ true → (x : ℕ) × Edge img s x v
  unfolding leads
  leads_by ls e = let r = some_one _ _ e in (r.0, edge_of ls r.2)

  pub leads_is : {s x v : ℕ} → Edge img s x v → leads img s v ≡ true
  unfolding leads
  leads_is a = some_true _ _ _ (edge_on a) (edge_is a)

  pub enters_by : {v x : ℕ} → enters img v x ≡ true → (s : ℕ) × Edge img s x v
  unfolding enters
  enters_by e = let r = some_one _ _ e in (r.0, edge_of r.1 r.2)

  pub enters_is : {s x v : ℕ} → Edge img s x v → enters img v x ≡ true
  unfolding enters
  enters_is a = some_true _ _ _ (edge_from a) (edge_is a)

  -- Every edge into v carries x.
  pub only_each : (x v : ℕ) → only_on img x v ≡ true → (r y : ℕ) → Edge img r y v → y ≡ x
  unfolding only_on
  only_each x v e r y a = eqb-true _ _ (implies_gives (enters img v y) (eqb y x) (all_each _ _ e y (edge_on a)) (enters_is a))

  pub only_is : (x v : ℕ) → ((r y : ℕ) → Edge img r y v → y ≡ x) → only_on img x v ≡ true
  unfolding only_on
  only_is x v h = all_true _ _ (λ y l. implies_all (enters img v y) (eqb y x) (λ e. let r = enters_by e in eq-eqb _ _ (h _ _ r.1)))

  -- The walk back.
  pub back_from : {s i u : ℕ} → s < states img → Back img s i u → u < states img
  back_from ls here = ls
  back_from ls (along b a) = edge_from a

  pub reached_back : (s i u : ℕ) → u < states img → reached img s i u ≡ true → Back img s i u
  unfolding reached
  reached_back s zero u lu e = let z : u ≡ s = eqb-true _ _ e in rw z here
  reached_back s (suc i) u lu e =
      let r = some_one (states img) (λ v. elim (leads img u v) [ true ↦ reached img s i v | false ↦ false ]) e in
      go r.0 r.1 (reached_back s i r.0 r.1) (leads img u r.0) refl r.2
    where
      go : (v : ℕ) → v < states img → (reached img s i v ≡ true → Back img s i v) → (b : Bool) → leads img u v ≡ b
          → elim b as (λ x. Bool) [ true ↦ reached img s i v | false ↦ false ] ≡ true → Back img s (suc i) u
      go v lv ih true f h = along (ih h) (leads_by lu f).1
      go v lv ih false f h = false-true h

  pub back_reached : (s i u : ℕ) → s < states img → Back img s i u → reached img s i u ≡ true
  unfolding reached
  back_reached s i u ls here = eq-eqb s s refl
  back_reached s i u ls (along {i = j} {v = v} b a) =
      some_true (states img) (λ v. elim (leads img u v) [ true ↦ reached img s j v | false ↦ false ]) v (back_from ls b)
      (simp (leads_is a) (back_reached s j v ls b))
