-- Manual, section 7: what the parse asks of the function by which it looks for the next token. What `Promised` says holds for
-- every such function, whether or not it scans at each step. That of section 3.1 is one.
use Rattle.std.specs.Prelude.{◌≡◌, List, ℕ, ◌+◌, ◌*◌, ◌<◌, ◌≤◌, length}
use Rattle.numbers.specs.Codes.{done, no_terminal, unexpected, allowance_used_up}
use Rattle.pack.specs.Image.{states, lhs, len, act, goto, end_of_text}
use Rattle.conditions.specs.Edges.{Back}
use Rattle.look.specs.declared.Spot.{Spot}
use Rattle.look.specs.Look.{Looked}
use Rattle.look.specs.Look.{past, found, refused}
use Rattle.parse.specs.Parse.{start}
use Rattle.promise.specs.Cover.{RightLeaf, Blanks}
use Rattle.promise.specs.Refusal.{NoTerminal, Unexpected}

-- What is found from a place on in parse state s. Each way, pieces of layout that are skipped in s lead from that place to the spot that is
-- given; what is found there is no layout, but where the allowance is used up.
pub data Sees (img text : List ℕ) (s from : ℕ) : Looked → Type 0 where
  token : (size terminal : ℕ) (to : Spot) → Blanks img text s from to.place → RightLeaf img text terminal to.place size s
      → Sees img text s from (found size terminal to)
  end : (to : Spot) → Blanks img text s from to.place → length text ≤ to.place → Sees img text s from (found 0 end_of_text to)
  none : (to : Spot) → Blanks img text s from to.place → NoTerminal img text s to.place → Sees img text s from (refused no_terminal 0 0 to)
  other : (size terminal : ℕ) (to : Spot) → Blanks img text s from to.place → Unexpected img text s to.place size terminal
      → Sees img text s from (refused unexpected size terminal to)
  spent : (to : Spot) → Blanks img text s from to.place → Sees img text s from (refused allowance_used_up 0 0 to)

-- A right look. It may ask something of the state on top and the spot, `Fits`, which holds at the start and after each shift and each
-- reduction that follows on a look that found a token; so it may use what an earlier look has found.
pub record RightLook (img text : List ℕ) (Fits : ℕ → Spot → Type 0) (looks : ℕ → Spot → Looked) : Type 0 where
  pub begins : Fits 0 start.at
  pub sees : (s : ℕ) (at : Spot) → s < states img → Fits s at → Sees img text s at.place (looks s at)
  pub shifts : (s v : ℕ) (at : Spot) → s < states img → Fits s at → (looks s at).code ≡ done → act img s (looks s at).terminal ≡ 2 + 2 * v
      → Fits v (past (looks s at).length (looks s at).at)
  pub reduces : (s p u v : ℕ) (at : Spot) → s < states img → Fits s at → (looks s at).code ≡ done → act img s (looks s at).terminal ≡ 3 + 2 * p
      → Back img s (len img p) u → goto img u (lhs img p) ≡ 1 + v → Fits v (looks s at).at
