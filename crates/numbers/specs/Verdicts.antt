-- Manual, sections 1.6 and 6: what the shape test says of any words, and the numbers that are given back for it.
use Rattle.std.specs.Prelude.{Bool, true, false, ℕ, Result, Ok, Err}
use Rattle.numbers.specs.Codes.{done, wrong_shape}
use Rattle.numbers.specs.declared.WrongWord.{WrongWord}

-- What the shape test says: every word is right, or this is the place of the first wrong one.
pub data Verdict : Type 0 where
  Good : Verdict
  Wrong : ℕ → Verdict

-- What a result says in these words: each result says one thing, and no other result says the same.
abbrev pub verdict_of : Result (Unit {0}) WrongWord → Verdict
verdict_of (Ok u) = Good
verdict_of (Err wrong) = Wrong wrong.0

-- The numbers that are given back for a verdict: the code, and the place of the wrong word.
unfoldable pub verdict_code : Verdict → ℕ
verdict_code Good = done
verdict_code (Wrong place) = wrong_shape

unfoldable pub verdict_place : Verdict → ℕ
verdict_place Good = 0
verdict_place (Wrong place) = place

-- The verdict is that some word is wrong.
unfoldable pub is_wrong : Verdict → Bool
is_wrong Good = false
is_wrong (Wrong place) = true
