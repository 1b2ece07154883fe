-- The whole text: what is given and left.
use mathlib.Core.Path.{◌≡◌}
use mathlib.Core.List.{List}
use Prim.Native.Nat.{ℕ, ◌<◌, ◌≤◌}
use native.Mathlib.Nat.{zero-add}
use native.Mathlib.Omega.{arith}
use lib.ListN.{length}
use lib.Seq.{sets-eq}
use borrow.Author.Tests.{lt-ltb, le-ltb}
use Rattle.numbers.specs.declared.Answer.{Answer}
use Rattle.numbers.specs.Verdicts.{Good, Wrong}
use Rattle.numbers.specs.Codes.{done, text_too_long, room_too_small, wrong_shape, longest_text}
use Rattle.numbers.specs.Front.{Delivers, buffer_after}
use Rattle.numbers.proofs.Laws.{answer, deliver_small, deliver_done}
use Rattle.shape.specs.Shape.{shape}
use Rattle.text.specs.declared.Form.{Form}
use Rattle.text.specs.Writer.{text_of, write_good, write}
use Rattle.putfields.specs.Steps.{Wrote}

module _ (form : Form) (img b : List ℕ) (room : ℕ) {size : ℕ} (e : size ≡ length (text_of form img)) where
  pub text_long : longest_text < size → Delivers (write_good form img room) b b (answer text_too_long 0)
  unfolding write_good
  text_long h =
      let z : longest_text < length (text_of form img) = omega (arith, e) in
      record { given = simp (write_good, lt-ltb _ _ z); left = simp (write_good, lt-ltb _ _ z) }

  module _ (h : size ≤ longest_text) where
    short : length (text_of form img) ≤ longest_text
    short = omega (arith, e)

    pub text_small : room < size → Delivers (write_good form img room) b b (answer room_too_small size)
    unfolding write_good
    text_small l = simp (write_good, le-ltb _ _ short) (rw e (deliver_small (text_of form img) room b (omega (arith, e))))

    pub text_done : (b' : List ℕ) (end : ℕ) → room ≡ length b → size ≤ room → Wrote (text_of form img) b 0 b' end → Delivers (write_good form img room) b b' (answer done end)
    unfolding write_good
    text_done b' end f l q =
        let y = rw (sets-eq (text_of form img) b 0 (omega (arith, e)), zero-add (length (text_of form img))) at q.holds in
        simp (write_good, le-ltb _ _ short) (deliver_done (text_of form img) room b b' end (omega (arith, e)) (omega (arith, q.end)) y)

module _ (form : Form) (img b : List ℕ) where
  pub write_wrong : (place : ℕ) → shape img ≡ Wrong place → (answer wrong_shape place ≡ (write form img b).answer) × (b ≡ buffer_after b (write form img b))
  unfolding write
  write_wrong place e = (simp (write, e), simp (write, e))

  pub write_done : (b' : List ℕ) (r : Answer) → shape img ≡ Good → Delivers (write_good form img (length b)) b b' r → (r ≡ (write form img b).answer) × (b' ≡ buffer_after b (write form img b))
  unfolding write
  write_done b' r e q = (simp (write, e) q.given, simp (write, e) q.left)
