-- Manual, section 1.1: sets. A set has bit t for terminal t.
-- A set of terminals is a number below 2 ^ 64.
-- Laws about these definitions stand in proofs/Laws.antt.
use Rattle.std.specs.Prelude.{Bool, ℕ, zero, suc, ◌+◌, ◌-◌, ◌/◌, ◌%◌, ◌^◌, eqb, leb}
use Rattle.std.specs.Int.Bits.{bit_and, bit_or}
use Rattle.std.specs.Int.Count.{count_trailing_zeros}

-- Bit t of the set: 1 where t is in it, else 0.
unfoldable pub has : ℕ → ℕ → ℕ
has set t = set / 2 ^ t % 2

-- t is in the set; t is lacking from it.
unfoldable pub member : ℕ → ℕ → Bool
member set t = eqb (has set t) 1

unfoldable pub lacks : ℕ → ℕ → Bool
lacks set t = eqb (has set t) 0

-- What is in both, what is in either, and what is in the first but not in the second.
abbrev pub meet : ℕ → ℕ → ℕ
meet a b = bit_and a b

abbrev pub union : ℕ → ℕ → ℕ
union a b = bit_or a b

abbrev pub less : ℕ → ℕ → ℕ
less a b = a - bit_and a b

-- Nothing is in the set; everything in the first is in the second.
unfoldable pub is_empty : ℕ → Bool
is_empty set = eqb set 0

unfoldable pub subset : ℕ → ℕ → Bool
subset a b = eqb (meet a b) a

-- How many of the terminals 0..k-1 are in the set, and how many there are in all.
unfoldable pub count_below : ℕ → ℕ → ℕ
count_below zero set = 0
count_below (suc k) set = has set 0 + count_below k (set / 2)

abbrev pub count : ℕ → ℕ
count set = count_below 64 set

-- More than one terminal.
unfoldable pub several : ℕ → Bool
several set = leb 2 (count set)

-- The least terminal of a set that is not empty.
abbrev pub lowest : ℕ → ℕ
lowest set = count_trailing_zeros 64 set

-- The set of terminal t alone.
abbrev pub single : ℕ → ℕ
single t = 2 ^ t
