-- Manual, section 7: what the third demand means by matching, through the moves from scan state 0. The scan does not use this file: the
-- promises about it do. A terminal matches some bytes where it is in M = acc ∪ rej after them: it is accepted there, or rejected.
-- Only what is accepted is a match of the scan. That a rejected terminal is one that is outranked is condition K1 of the check.
use Rattle.std.specs.Prelude.{◌≡◌, List, [], ◌∷◌, ℕ, zero, suc, ◌<◌, ◌≤◌, length, take}
use Rattle.sets.specs.Sets.{has, meet}
use Rattle.pack.specs.Image.{class_of, move, acc, rej}
use Rattle.conditions.specs.Conditions.{matched}

-- Where the moves on these bytes lead from state q on: 1 more than the state, or 0 where there is no way.
unfoldable pub led_from : List ℕ → ℕ → List ℕ → ℕ
led_from img q [] = suc q
led_from img q (b ∷ bytes) = elim (move img q (class_of img b)) [ zero ↦ 0 | suc p ↦ led_from img p bytes ]

-- The bytes lead from scan state 0 to q.
pub record Leads (img bytes : List ℕ) (q : ℕ) : Type 0 where
  pub way : led_from img 0 bytes ≡ suc q

-- Terminal t is accepted after these bytes; it is rejected after them.
pub record Accepts (img bytes : List ℕ) (t : ℕ) : Type 0 where
  pub state : ℕ
  pub leads : Leads img bytes state
  pub here : has (acc img state) t ≡ 1

pub record Rejects (img bytes : List ℕ) (t : ℕ) : Type 0 where
  pub state : ℕ
  pub leads : Leads img bytes state
  pub here : has (rej img state) t ≡ 1

-- Terminal t matches the bytes: it is accepted or rejected after them.
pub record Matches (img bytes : List ℕ) (t : ℕ) : Type 0 where
  pub state : ℕ
  pub leads : Leads img bytes state
  pub here : has (matched img state) t ≡ 1

-- The last length at which, reading on, any valid terminal is accepted or rejected, and the state there.
pub record Last (img bytes : List ℕ) (v n q : ℕ) : Type 0 where
  pub within : n ≤ length bytes
  pub leads : Leads img (take n bytes) q
  pub here : meet (matched img q) v ≡ 0 → ⊥
  pub after : (m p : ℕ) → n < m → m ≤ length bytes → Leads img (take m bytes) p → meet (matched img p) v ≡ 0
