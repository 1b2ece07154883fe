-- Laws of the tests that tests are made of: each says what it means that one is true. Assumes nothing.
use mathlib.Core.Path.{◌≡◌, refl, sym, ap, ◌∙◌}
use mathlib.Core.Bool.{Bool, true, false, ◌&&◌}
use Prim.Native.Nat.{ℕ, zero, suc, ◌<◌, ◌≤◌, ◌^◌}
use native.Mathlib.Nat.{not-suc-le-zero, pow-suc}
use native.Mathlib.Omega.{arith}
use lib.Dec.{leb, ltb}
use lib.Bits.{bit_and, and_le_l}
use borrow.Author.Tests.{eq-eqb, le-leb, eqb-true, leb-true, ltb-true, ltb-false}
use Rattle.sets.specs.Sets.{has, member, subset}
use Rattle.sets.proofs.Laws.{has-lt, has_none, has-and, ext, lowest_lt, lowest_in}
use Rattle.conditions.specs.Tests.{all_below, some_below, implies, same, Decides}
use Rattle.conditions.specs.Conditions.{Subset}

-- What is false is not true.
pub false-true : {A : Type 0} → false ≡ true → A
false-true e = let z : ◌≡◌ {A = ℕ} 0 1 = cc in absurd (omega arith)

-- A test that is not true is false.
pub not_true : (b : Bool) → (b ≡ true → ⊥) → b ≡ false
not_true true h = absurd (h refl)
not_true false h = refl

-- Two tests that ask the same are the same.
pub alike : (a b : Bool) → (a ≡ true → b ≡ true) → (b ≡ true → a ≡ true) → a ≡ b
alike true b h k = sym (h refl)
alike false true h k = k refl
alike false false h k = refl

-- Both, and one that asks the other.
pub and_left : (a b : Bool) → (a && b) ≡ true → a ≡ true
and_left true b e = refl
and_left false b e = false-true e

pub and_right : (a b : Bool) → (a && b) ≡ true → b ≡ true
and_right true b e = e
and_right false b e = false-true e

pub and_both : (a b : Bool) → a ≡ true → b ≡ true → (a && b) ≡ true
and_both true b e f = f
and_both false b e f = false-true e

pub implies_gives : (a b : Bool) → implies a b ≡ true → a ≡ true → b ≡ true
unfolding implies
implies_gives true b e f = e
implies_gives false b e f = false-true f

pub implies_all : (a b : Bool) → (a ≡ true → b ≡ true) → implies a b ≡ true
unfolding implies
implies_all true b h = h refl
implies_all false b h = refl

pub same_is : (a b : Bool) → same a b ≡ true → a ≡ b
unfolding same implies
same_is true true e = refl
same_is true false e = false-true e
same_is false true e = false-true e
same_is false false e = refl

pub same_all : (a b : Bool) → (a ≡ true → b ≡ true) → (b ≡ true → a ≡ true) → same a b ≡ true
unfolding same implies
same_all true b h k = h refl
same_all false true h k = false-true (k refl)
same_all false false h k = refl

-- All numbers below n, and some number below n.
pub all_each : (n : ℕ) (test : ℕ → Bool) → all_below n test ≡ true → (i : ℕ) → i < n → test i ≡ true
unfolding all_below
all_each zero test e i l = absurd (not-suc-le-zero l)
all_each (suc n) test e i l = go (all_each n test) (all_below n test) refl e (ltb i n) refl
  where
    go : (all_below n test ≡ true → (j : ℕ) → j < n → test j ≡ true) → (b : Bool) → all_below n test ≡ b
        → elim b as (λ x. Bool) [ true ↦ test n | false ↦ false ] ≡ true → (c : Bool) → ltb i n ≡ c → test i ≡ true
    go ih false t f c g = false-true f
    go ih true t f true g = ih t i (ltb-true i n g)
    go ih true t f false g = let z : i ≡ n = omega (arith, ltb-false i n g) in rw z f

pub all_true : (n : ℕ) (test : ℕ → Bool) → ((i : ℕ) → i < n → test i ≡ true) → all_below n test ≡ true
unfolding all_below
all_true zero test h = refl
all_true (suc n) test h = simp (all_below, all_true n test (λ i l. h i (omega arith))) (h n (omega arith))

pub some_one : (n : ℕ) (test : ℕ → Bool) → some_below n test ≡ true → (i : ℕ) × (i < n) × (test i ≡ true)
unfolding some_below
some_one zero test e = false-true e
some_one (suc n) test e = go (some_one n test) (some_below n test) refl e
  where
    go : (some_below n test ≡ true → (i : ℕ) × (i < n) × (test i ≡ true)) → (b : Bool) → some_below n test ≡ b
        → elim b as (λ x. Bool) [ true ↦ true | false ↦ test n ] ≡ true → (i : ℕ) × (i < suc n) × (test i ≡ true)
    go ih true t f = let r = ih t in (r.0, omega (arith, r.1), r.2)
    go ih false t f = (n, omega arith, f)

pub some_true : (n : ℕ) (test : ℕ → Bool) (i : ℕ) → i < n → test i ≡ true → some_below n test ≡ true
unfolding some_below
some_true zero test i l e = absurd (not-suc-le-zero l)
some_true (suc n) test i l e = go (some_true n test i) (some_below n test) refl (ltb i n) refl
  where
    go : (i < n → test i ≡ true → some_below n test ≡ true) → (b : Bool) → some_below n test ≡ b → (c : Bool) → ltb i n ≡ c
        → elim (some_below n test) [ true ↦ true | false ↦ test n ] ≡ true
    go ih true t c g = simp t
    go ih false t true g = false-true (sym t ∙ ih (ltb-true i n g) e)
    go ih false t false g = let z : i ≡ n = omega (arith, ltb-false i n g) in simp (t, ← z) e

-- One test of all fails, or none of some holds.
pub all_false : (n : ℕ) (test : ℕ → Bool) (i : ℕ) → i < n → test i ≡ false → all_below n test ≡ false
all_false n test i l e = not_true _ (λ a. false-true (sym e ∙ all_each n test a i l))

pub some_false : (n : ℕ) (test : ℕ → Bool) → ((i : ℕ) → i < n → test i ≡ false) → some_below n test ≡ false
some_false n test h = not_true _ (λ a. let r = some_one n test a in false-true (sym (h r.0 r.1) ∙ r.2))

-- Terminals of sets, of any width.
pub below_power : (x : ℕ) → x < 2 ^ x
below_power zero = omega arith
below_power (suc x) = rw (pow-suc 2 x) (omega (arith, below_power x))

pub member-has : (x t : ℕ) → member x t ≡ true → has x t ≡ 1
unfolding member
member-has x t e = eqb-true _ _ e

pub has-member : (x t : ℕ) → has x t ≡ 1 → member x t ≡ true
unfolding member
has-member x t e = eq-eqb _ _ e

pub some_terminal : (x : ℕ) → leb 1 x ≡ true → (t : ℕ) × (has x t ≡ 1)
some_terminal x e =
    let l : 1 ≤ x = leb-true 1 x e in
    (_, lowest_in x x (lowest_lt x x (below_power x) (λ z. omega arith)))

pub terminal_some : (x t : ℕ) → has x t ≡ 1 → leb 1 x ≡ true
terminal_some zero t e = absurd (omega (arith, has_none t))
terminal_some (suc x) t e = le-leb 1 (suc x) (omega arith)

pub subset_is : (a b : ℕ) → Decides (subset a b) (Subset a b)
unfolding subset
subset_is a b = record {
  sound = λ e. record { each = λ t h. omega (arith, has-and a b t, ap (λ (x : ℕ). has x t) (eqb-true (bit_and a b) a e), has-lt b t) };
  complete = λ s. eq-eqb (bit_and a b) a (ext a (bit_and a b) a (omega (arith, below_power a, and_le_l a b)) (below_power a) (λ t l. go s t (has a t) refl));
}
  where
    go : Subset a b → (t d : ℕ) → has a t ≡ d → has (bit_and a b) t ≡ has a t
    go s t zero e = omega (arith, has-and a b t)
    go s t (suc zero) e = omega (arith, has-and a b t, s.each t e)
    go s t (suc (suc d)) e = absurd (omega (arith, has-lt a t))
