-- Manual, section 2.2: the terminal that a token's set stands for.
use Rattle.std.specs.Prelude.{true, false, List, ℕ, zero, suc, ◌+◌, eqb}
use Rattle.sets.specs.Sets.{several, lowest}
use Rattle.pack.specs.Image.{groups, group_set, chosen}

-- The first of n groups from g on whose set this is: 1 more than its chosen terminal, or 0 where there is none.
unfoldable pub chosen_in : List ℕ → ℕ → ℕ → ℕ → ℕ
chosen_in img set zero g = 0
chosen_in img set (suc n) g = elim (eqb (group_set img g) set) [ true ↦ suc (chosen img g) | false ↦ chosen_in img set n (g + 1) ]

abbrev pub chosen_of : List ℕ → ℕ → ℕ
chosen_of img set = chosen_in img set (groups img) 0

-- One terminal stands for itself; several must be the set of a group, whose chosen terminal is taken:
-- 1 more than the terminal of a set that is not empty, or 0 for code 9.
unfoldable pub terminal_of : List ℕ → ℕ → ℕ
terminal_of img set = elim (several set) [ false ↦ suc (lowest set) | true ↦ chosen_of img set ]
