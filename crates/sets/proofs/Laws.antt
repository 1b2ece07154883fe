-- Laws of terminal sets, over any width k: from the numbers that the code computes to the terminals that a set has, and back.
-- Assumes nothing.
use mathlib.Core.Path.{◌≡◌, refl, sym, ap, ap₂, ◌∙◌}
use mathlib.Core.Bool.{Bool, true, false}
use Prim.Native.Nat.{ℕ, zero, suc, ◌+◌, ◌-◌, ◌*◌, ◌/◌, ◌%◌, ◌^◌, ◌≤◌, ◌<◌, suc-le-suc, min, max}
use native.Mathlib.Nat.{le_of_suc-le-suc, not-suc-le-zero, mod-lt, zero-div, zero-lt-suc, div-eq_of_lt, div-add-mod', zero-mul, one-mul, mod-eq_of_lt}
use native.Mathlib.Numerals.{add-one, one-add}
use native.Mathlib.Omega.{arith}
use lib.Pow.{shr-shr, shr_lt, pow_pos, pow-lt, pow_mono}
use lib.Bits.{bit_and, bit_or, and_step, or_step, and_le_l, and_le_r, or_add_and}
use lib.Count.{ones, ones_in, ones_step, count_trailing_zeros, under}
use lib.Arith.{lt_of_le-ne}
use lib.Dec.{ltb}
use borrow.Author.Tests.{eq-eqb, ne_eqb, eqb-true, eqb-false, ltb-true, ltb-false}
use Rattle.sets.specs.Sets.{has, member, lacks, count_below, less}

-- A bit is 0 or 1.
pub has-lt : (x t : ℕ) → has x t < 2
unfolding has
has-lt x t = mod-lt (x / 2 ^ t) (omega arith)

pub has-zero : (x : ℕ) → has x 0 ≡ x % 2
unfolding has
has-zero x = omega arith

pub has-suc : (x t : ℕ) → has x (suc t) ≡ has (x / 2) t
unfolding has
has-suc x t = ap (λ (y : ℕ). y % 2) (sym (rw one-add at (shr-shr x 1 t)))

-- Nothing is in the empty set, and nothing at or above a width that the number is within.
pub has_none : (t : ℕ) → has 0 t ≡ 0
unfolding has
has_none t = ap (λ (x : ℕ). x % 2) (zero-div (2 ^ t))

pub has_above : {x k : ℕ} (t : ℕ) → x < 2 ^ k → k ≤ t → has x t ≡ 0
unfolding has
has_above {x} {k} t h l =
    let b : x < 2 ^ t = omega (arith, pow_mono l) in
    ap (λ (y : ℕ). y % 2) (div-eq_of_lt b)

-- What is in both, in either, in the first alone.
pub has-and : (a b t : ℕ) → has (bit_and a b) t ≡ min (has a t) (has b t)
has-and a b zero = omega (arith, and_step a b, has-zero a, has-zero b, has-zero (bit_and a b))
has-and a b (suc t) =
    let e : bit_and a b / 2 ≡ bit_and (a / 2) (b / 2) = omega (arith, and_step a b) in
    rw (has-suc (bit_and a b) t, has-suc a t, has-suc b t, e) (has-and (a / 2) (b / 2) t)

pub has-or : (a b t : ℕ) → has (bit_or a b) t ≡ max (has a t) (has b t)
has-or a b zero = omega (arith, or_step a b, has-zero a, has-zero b, has-zero (bit_or a b))
has-or a b (suc t) =
    let e : bit_or a b / 2 ≡ bit_or (a / 2) (b / 2) = omega (arith, or_step a b) in
    rw (has-suc (bit_or a b) t, has-suc a t, has-suc b t, e) (has-or (a / 2) (b / 2) t)

pub has_less : (a b t : ℕ) → has (less a b) t ≡ has a t - has b t
has_less a b zero = omega (arith, and_step a b, and_le_l (a / 2) (b / 2), has-zero a, has-zero b, has-zero (a - bit_and a b))
has_less a b (suc t) =
    let e : (a - bit_and a b) / 2 ≡ a / 2 - bit_and (a / 2) (b / 2) = omega (arith, and_step a b, and_le_l (a / 2) (b / 2)) in
    rw (has-suc (a - bit_and a b) t, has-suc a t, has-suc b t, e) (has_less (a / 2) (b / 2) t)

-- A union is no smaller number than either set, so it is empty only where both are.
pub or_left : (a b : ℕ) → a ≤ bit_or a b
or_left a b = omega (arith, or_add_and a b, and_le_r a b)

pub or_right : (a b : ℕ) → b ≤ bit_or a b
or_right a b = omega (arith, or_add_and a b, and_le_l a b)

pub or_empty : (a b : ℕ) → bit_or a b ≡ 0 → (a ≡ 0) × (b ≡ 0)
or_empty a b z = (omega (arith, or_left a b), omega (arith, or_right a b))

-- Two sets with the same terminals are one number; a set with none is 0.
pub ext : (k a b : ℕ) → a < 2 ^ k → b < 2 ^ k → ((t : ℕ) → t < k → has a t ≡ has b t) → a ≡ b
ext zero a b ha hb h = omega arith
ext (suc k) a b ha hb h =
    let i = ext k (a / 2) (b / 2) (shr_lt k 1 (rw add-one ha)) (shr_lt k 1 (rw add-one hb)) (λ t l. rw (← has-suc a t, ← has-suc b t) (h (suc t) (omega arith))) in
    omega (arith, has-zero a, has-zero b, h 0 (omega arith))

pub empty : (k a : ℕ) → a < 2 ^ k → ((t : ℕ) → t < k → has a t ≡ 0) → a ≡ 0
empty k a ha h = ext k a 0 ha (pow_pos k) (λ t l. h t l ∙ sym (has_none t))

-- The count of ones is the count of terminals.
pub ones_count : (k x : ℕ) → x < 2 ^ k → ones x ≡ count_below k x
unfolding count_below ones ones_in
ones_count zero x h = let e : x ≡ 0 = omega arith in rw e
ones_count (suc k) x h = ones_step x ∙ ap₂ (λ (u w : ℕ). u + w) (sym (has-zero x)) (ones_count k (x / 2) (shr_lt k 1 (rw add-one h)))

-- The trailing zeros of a set that is not empty lead to its lowest terminal.
pub lowest_lt : (k x : ℕ) → x < 2 ^ k → (x ≡ 0 → ⊥) → count_trailing_zeros k x < k
unfolding count_trailing_zeros
lowest_lt zero x h n = absurd (n (omega arith))
lowest_lt (suc k) x h n = go (lowest_lt k (x / 2)) (x % 2) refl
  where
    go : (x / 2 < 2 ^ k → (x / 2 ≡ 0 → ⊥) → count_trailing_zeros k (x / 2) < k) → (d : ℕ) → x % 2 ≡ d → under d (count_trailing_zeros k (x / 2)) < suc k
    go ih zero e = suc-le-suc (ih (shr_lt k 1 (rw add-one h)) (λ z. n (omega arith)))
    go ih (suc d) e = zero-lt-suc k

pub lowest_in : (k x : ℕ) → count_trailing_zeros k x < k → has x (count_trailing_zeros k x) ≡ 1
unfolding count_trailing_zeros
lowest_in zero x l = absurd (not-suc-le-zero l)
lowest_in (suc k) x l = go (lowest_in k (x / 2)) (x % 2) refl l
  where
    go : (count_trailing_zeros k (x / 2) < k → has (x / 2) (count_trailing_zeros k (x / 2)) ≡ 1)
        → (d : ℕ) → x % 2 ≡ d → under d (count_trailing_zeros k (x / 2)) < suc k → has x (under d (count_trailing_zeros k (x / 2))) ≡ 1
    go ih zero e h = has-suc x (count_trailing_zeros k (x / 2)) ∙ ih (le_of_suc-le-suc h)
    go ih (suc zero) e h = has-zero x ∙ e
    go ih (suc (suc d)) e h = absurd (omega arith)

pub lowest_below : (k x t : ℕ) → t < count_trailing_zeros k x → has x t ≡ 0
unfolding count_trailing_zeros
lowest_below zero x t l = absurd (not-suc-le-zero l)
lowest_below (suc k) x t l = go (lowest_below k (x / 2)) (x % 2) refl t l
  where
    go : ((u : ℕ) → u < count_trailing_zeros k (x / 2) → has (x / 2) u ≡ 0)
        → (d : ℕ) → x % 2 ≡ d → (u : ℕ) → u < under d (count_trailing_zeros k (x / 2)) → has x u ≡ 0
    go ih zero e zero h = has-zero x ∙ e
    go ih zero e (suc u) h = has-suc x u ∙ ih u (le_of_suc-le-suc h)
    go ih (suc d) e u h = absurd (not-suc-le-zero h)

-- A set with a terminal counts at least one, and of a set that counts at most one any two are the same.
pub some_count : (k x t : ℕ) → t < k → has x t ≡ 1 → 1 ≤ count_below k x
unfolding count_below
some_count zero x t l e = absurd (not-suc-le-zero l)
some_count (suc k) x zero l e = omega arith
some_count (suc k) x (suc t) l e = omega (arith, some_count k (x / 2) t (le_of_suc-le-suc l) (rw has-suc at e))

pub at_most_one : (k x t u : ℕ) → count_below k x ≤ 1 → t < k → u < k → has x t ≡ 1 → has x u ≡ 1 → t ≡ u
unfolding count_below
at_most_one zero x t u c l m e f = absurd (not-suc-le-zero l)
at_most_one (suc k) x zero zero c l m e f = refl
at_most_one (suc k) x zero (suc u) c l m e f = absurd (omega (arith, some_count k (x / 2) u (le_of_suc-le-suc m) (rw has-suc at f)))
at_most_one (suc k) x (suc t) zero c l m e f = absurd (omega (arith, some_count k (x / 2) t (le_of_suc-le-suc l) (rw has-suc at e)))
at_most_one (suc k) x (suc t) (suc u) c l m e f =
    ap suc (at_most_one k (x / 2) t u (omega arith) (le_of_suc-le-suc l) (le_of_suc-le-suc m) (rw has-suc at e) (rw has-suc at f))

-- A terminal is in a set or lacking from it.
pub in_lacks : (x t : ℕ) → member x t ≡ true → lacks x t ≡ false
unfolding member lacks
in_lacks x t e = let h : has x t ≡ 1 = eqb-true _ _ e in ne_eqb (has x t) 0 (λ z. omega arith)

pub out_lacks : (x t : ℕ) → member x t ≡ false → lacks x t ≡ true
unfolding member lacks
out_lacks x t e = eq-eqb (has x t) 0 (omega (arith, lt_of_le-ne (le_of_suc-le-suc (has-lt x t)) (eqb-false _ _ e)))

-- A number is below a power of two exactly where it is shifted away.
pub shifted_away : (x k : ℕ) → x / 2 ^ k ≡ 0 → x < 2 ^ k
shifted_away x k e = omega (arith, div-add-mod' x (2 ^ k), times_zero e, mod-lt x (pow_pos k))
  where
    times_zero : x / 2 ^ k ≡ 0 → x / 2 ^ k * 2 ^ k ≡ 0
    times_zero z = rw (z, zero-mul (2 ^ k))

pub not_shifted_away : (x k : ℕ) → (x / 2 ^ k ≡ 0 → ⊥) → 2 ^ k ≤ x
not_shifted_away x k n = go (ltb x (2 ^ k)) refl
  where
    go : (b : Bool) → ltb x (2 ^ k) ≡ b → 2 ^ k ≤ x
    go true e = absurd (n (div-eq_of_lt (ltb-true _ _ e)))
    go false e = ltb-false _ _ e

-- The set of one terminal, as the code shifts it.
pub one_shifted : (t : ℕ) → t < 64 → 1 * 2 ^ t % 18446744073709551616 ≡ 2 ^ t
one_shifted t h =
    let b : 2 ^ t < 18446744073709551616 = pow-lt h in
    rw (one-mul (2 ^ t)) (mod-eq_of_lt b)
