-- What the functions that look for a token ask for and promise each other. No public entry point's contract cites it.
use Rattle.std.specs.Prelude.{◌≡◌, List, ℕ, ◌+◌, ◌<◌, ◌≤◌, length, get_or}
use Rattle.pack.specs.Image.{terminals}
use Rattle.token.specs.Terms.{Terms}
use Rattle.look.specs.declared.Spot.{Spot}
use Rattle.look.specs.Look.{Sought, Looked, sought_set}

-- Each set in the row is that of its state, or 0 for not yet found.
pub record Known (img known : List ℕ) : Type 0 where
  pub size : length known ≡ 128
  pub each : (s : ℕ) → (get_or known s 0 ≡ 0 → ⊥) → get_or known s 0 ≡ sought_set img s

-- A spot within the text and the allowance.
pub record Within (text : List ℕ) (allowance : ℕ) (at : Spot) : Type 0 where
  pub place : at.place ≤ length text
  pub moves : at.moves ≤ allowance

-- What a scan found lies within the text and the allowance; a match is a byte or more, of terminals.
pub record SoughtWithin (img text : List ℕ) (allowance : ℕ) (f : Sought) : Type 0 where
  pub place : f.at.place + f.length ≤ length text
  pub moves : f.at.moves ≤ allowance
  pub some : (f.set ≡ 0 → ⊥) → 1 ≤ f.length
  pub terms : Terms img f.set

-- What was found lies within the text and the allowance, and is a terminal.
pub record LookedWithin (img text : List ℕ) (allowance : ℕ) (l : Looked) : Type 0 where
  pub place : l.at.place + l.length ≤ length text
  pub moves : l.at.moves ≤ allowance
  pub terminal : l.terminal < terminals img
