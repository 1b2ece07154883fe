-- Manual, section 1.6: what the quick passes over the tables promise where they say that all is well. `shape` does not use this file.
use Rattle.std.specs.Prelude.{◌≡◌, true, false, List, ℕ, zero, suc, ◌+◌, ◌*◌, ◌-◌, ◌%◌, ◌<◌, ◌≤◌, eqb, length, get_or}
use Rattle.sets.specs.Sets.{has, member, meet}
use Rattle.pack.specs.Image.{set_words, set_at, terminals, scan_states, layout, act, acc, rej}

-- No word is above the limit.
pub record Above (words : List ℕ) (most : ℕ) : Type 0 where
  pub each : (j : ℕ) → j < length words → get_or words j 0 ≤ most

-- f 0 + f 1 + .. , n of them.
unfoldable pub sum : (ℕ → ℕ) → ℕ → ℕ
sum f zero = 0
sum f (suc n) = sum f n + f n

-- 1 where an action code accepts.
unfoldable pub accept : ℕ → ℕ
accept code = elim (eqb code 1) [ true ↦ 1 | false ↦ 0 ]

-- An action code is at most one number where it is even, and at most another where it is odd.
pub record Limited (shift reduction code : ℕ) : Type 0 where
  pub even : code % 2 ≡ 0 → code ≤ shift
  pub odd : code % 2 ≡ 1 → code ≤ reduction

-- Each of some codes is above one number by so much at the most, and above another by an even number where the numbers joined are even; and so
-- many of them accept.
pub record Codes (words : List ℕ) (low most apart over n : ℕ) : Type 0 where
  pub each : Above words (most + over)
  pub even : apart % 2 ≡ 0 → (j : ℕ) → j < length words → (get_or words j 0 - low) % 2 ≡ 0
  pub accepts : n ≡ sum (λ j. accept (get_or words j 0)) (length words)

-- In so many rows of the action table, from a row on: column 0 has no shift, and so many accepts or more.
pub record First (img : List ℕ) (from rows most : ℕ) : Type 0 where
  pub no_shift : (s : ℕ) → s < rows → act img (from + s) 0 % 2 ≡ 0 → act img (from + s) 0 ≡ 0
  pub accepts : most ≤ sum (λ s. accept (act img (from + s) 0)) rows

-- There a layout column has errors only.
pub record Shut (img : List ℕ) (from rows : ℕ) : Type 0 where
  pub each : (t : ℕ) → t < terminals img → member (layout img) t ≡ true → (s : ℕ) → s < rows → act img (from + s) t ≡ 0

-- A set is no greater number than another, and lacks the end of the text where that does; and so are n sets, the first at a place.
pub record Part (set all : ℕ) : Type 0 where
  pub below : set ≤ all
  pub end : has all 0 ≡ 0 → has set 0 ≡ 0

pub record Parts (img : List ℕ) (start n all : ℕ) : Type 0 where
  pub each : (k : ℕ) → k < n → Part (set_at img (start + k * set_words)) all

-- No scan state accepts what it rejects.
pub record Apart (img : List ℕ) : Type 0 where
  pub each : (q : ℕ) → q < scan_states img → meet (acc img q) (rej img q) ≡ 0
