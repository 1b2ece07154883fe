-- The definitions' numbers for what the code of a scan gives: a match, a stop and a number that may be absent.
use Rattle.std.specs.Prelude.{ℕ, suc, Option, Some, None, Ok, Err}
use Rattle.scan.specs.declared.Matched.{Matched}
use Rattle.scan.specs.declared.Found.{Found}
use Rattle.scan.specs.declared.Remembered.{Remembered}
use Rattle.scan.specs.Scan.{Stop, nothing, stopped, used_up}

-- 1 more than the number, or 0 for none.
abbrev pub one_more : Option ℕ → ℕ
one_more None = 0
one_more (Some n) = suc n

-- What is remembered. A match is never of the empty set, so that it differs from none.
abbrev pub kept_of : Option Matched → Remembered
kept_of None = nothing
kept_of (Some m) = record { set = m.set; length = m.length }

abbrev pub stop_of : Found → Stop
stop_of f = elim f.matched [ Ok kept ↦ stopped (kept_of kept) f.moves | Err e ↦ used_up f.moves ]
