-- What is handed to a caller: all of it at the front of the buffer, or nothing; and a result is known by its verdict. Assumes nothing.
use mathlib.Core.Path.{◌≡◌, refl, ap}
use mathlib.Core.List.{List}
use Prim.Native.Nat.{ℕ, ◌<◌, ◌≤◌}
use lib.ListN.{length}
use borrow.Author.Tests.{lt-ltb, le-ltb}
use Rattle.std.specs.Prelude.{Result, Ok, Err}
use Rattle.std.specs.Result.{is_err}
use Rattle.numbers.specs.Codes.{done, room_too_small}
use Rattle.numbers.specs.Front.{Delivers, refuse, deliver, front}
use Rattle.numbers.specs.Verdicts.{verdict_of, is_wrong}
use Rattle.numbers.specs.declared.Answer.{Answer}
use Rattle.numbers.specs.declared.WrongWord.{WrongWord}

abbrev pub answer : ℕ → ℕ → Answer
answer code number = record { code = code; number = number }

-- ---- the two ways of a delivery
module _ (output : List ℕ) (room : ℕ) where
  pub deliver_none : room < length output → deliver output room ≡ refuse room_too_small (length output)
  unfolding deliver
  deliver_none h = simp (deliver, lt-ltb _ _ h)

  pub deliver_all : length output ≤ room → deliver output room ≡ record { answer = answer done (length output); written = output }
  unfolding deliver
  deliver_all h = simp (deliver, le-ltb _ _ h)

  pub deliver_small : (buffer : List ℕ) → room < length output → Delivers (deliver output room) buffer buffer (answer room_too_small (length output))
  deliver_small buffer h = rw (deliver_none h) (record { given = refl; left = refl })

  pub deliver_done : (buffer buffer' : List ℕ) (n : ℕ) → length output ≤ room → n ≡ length output → buffer' ≡ front output buffer
      → Delivers (deliver output room) buffer buffer' (answer done n)
  deliver_done buffer buffer' n h e q = rw (deliver_all h, e) (record { given = refl; left = q })

-- ---- results of the same verdict are the same
pub same_verdict : (a b : Result (Unit {0}) WrongWord) → verdict_of a ≡ verdict_of b → a ≡ b
same_verdict (Ok u) (Ok v) e = refl
same_verdict (Ok u) (Err w) e = cc
same_verdict (Err v) (Ok u) e = cc
same_verdict (Err v) (Err w) e = let z : v.0 ≡ w.0 = cc in ap (λ n. Err (record { 0 = n })) z

-- A result is an error exactly where its verdict is wrong.
pub err_is_wrong : (r : Result (Unit {0}) WrongWord) → is_wrong (verdict_of r) ≡ is_err r
unfolding is_wrong
err_is_wrong (Ok u) = refl
err_is_wrong (Err w) = refl
