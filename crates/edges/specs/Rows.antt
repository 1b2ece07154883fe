-- Manual, sections 4.4 to 4.6, for the code: rows of sets. A row has 128 sets of numbers below 128, each as the number whose bit b says
-- whether b is in the set. The definitions of the check do not use this file.
use Rattle.std.specs.Prelude.{◌≡◌, Bool, true, false, ◌&&◌, List, ℕ, ◌+◌, ◌<◌, ◌≤◌, eqb, ltb, length, get_or, Option, Some, None}
use Rattle.sets.specs.Sets.{member}
use Rattle.conditions.specs.Tests.{all_below, some_below, implies}

-- A number as a cell of the tables has it: 1 more than it is, and 0 where there is none.
unfoldable pub cell_of : Option ℕ → ℕ
cell_of None = 0
cell_of (Some n) = 1 + n

-- Number b is in set v.
abbrev pub bit_at : List ℕ → ℕ → ℕ → Bool
bit_at row v b = member (get_or row v 0) b

-- The first, or else the second.
unfoldable pub either : Bool → Bool → Bool
either a b = elim a [ true ↦ true | false ↦ b ]

-- Number b is put into set `to - 1`, and nothing is where `to` is 0.
pub record Put (row : List ℕ) (to b : ℕ) (after : List ℕ) : Type 0 where
  pub size : length after ≡ length row
  pub each : (v c : ℕ) → v < 128 → c < 128 → bit_at after v c ≡ either (bit_at row v c) (eqb to (1 + v) && eqb c b)

-- For each x below n, number s is put into set `to x - 1`; or x itself is.
pub record PutOne (to : ℕ → ℕ) (s n : ℕ) (row after : List ℕ) : Type 0 where
  pub size : length after ≡ length row
  pub each : (v u : ℕ) → v < 128 → u < 128 → bit_at after v u ≡ either (bit_at row v u) (eqb u s && some_below n (λ x. eqb (to x) (1 + v)))

pub record PutEach (to : ℕ → ℕ) (n : ℕ) (row after : List ℕ) : Type 0 where
  pub size : length after ≡ length row
  pub each : (v x : ℕ) → v < 128 → x < 128 → bit_at after v x ≡ either (bit_at row v x) (ltb x n && eqb (to x) (1 + v))

-- A set holds the numbers below 128 that pass a test.
pub record Whole (test : ℕ → Bool) (set : ℕ) : Type 0 where
  pub each : (t : ℕ) → t < 128 → member set t ≡ test t

-- Every number of a set passes the test; every one is x.
unfoldable pub all_in : ℕ → (ℕ → Bool) → Bool
all_in set test = all_below 128 (λ y. implies (member set y) (test y))

abbrev pub only_in : ℕ → ℕ → Bool
only_in set x = all_in set (λ y. eqb y x)

-- Of the numbers below n that pass a test, the least that is b or more; n where there is none.
pub record Next (test : ℕ → Bool) (n b r : ℕ) : Type 0 where
  pub from : b ≤ r
  pub most : r ≤ n
  pub there : r < n → test r ≡ true
  pub none : (t : ℕ) → b ≤ t → t < r → test t ≡ false

-- Number y is in a set of the row whose own number is in a set.
unfoldable pub joined : List ℕ → ℕ → ℕ → Bool
joined row set y = some_below 128 (λ v. member set v && bit_at row v y)

-- Set i is made anew, with the numbers that pass a test; the sets before it are as they were.
pub record Made (row : List ℕ) (i : ℕ) (test : ℕ → Bool) (after : List ℕ) : Type 0 where
  pub size : length after ≡ 128
  pub kept : (j y : ℕ) → j < i → y < 128 → bit_at after j y ≡ bit_at row j y
  pub new : (y : ℕ) → y < 128 → bit_at after i y ≡ test y
