-- The moves between the forms: a text whose text in the other form fits comes there and returns to its own bytes.
use mathlib.Core.Path.{◌≡◌, refl, ap, ◌∙◌}
use mathlib.Core.Bool.{Bool, true, false}
use mathlib.Core.List.{List, []}
use Prim.Native.Nat.{ℕ, ◌≤◌}
use native.Mathlib.Omega.{arith}
use lib.Dec.{ltb}
use lib.ListN.{length}
use borrow.Author.Tests.{le-ltb, ltb-false}
use Rattle.numbers.specs.Verdicts.{Verdict, Good, Wrong}
use Rattle.numbers.specs.Front.{deliver}
use Rattle.shape.specs.Shape.{shape}
use Rattle.text.specs.declared.Form.{Form}
use Rattle.text.specs.Reader.{Lines, read_in, judge}
use Rattle.text.specs.Reader.Lines.{wrong_from, all}
use Rattle.text.specs.Writer.{text_of, write_good}
use Rattle.text.specs.Reform.{reform}
use Rattle.text.proofs.Lines.{Small}
use Rattle.text.proofs.RoundTrip.{read-nil, image_in}
use Rattle.text.proofs.TextTrip.{text_back, text_small}

-- A source that is right, of good shape and not too long, whose target fits the limit and the room, is moved.
pub moves : (from to : Form) (text words buffer : List ℕ) → length text ≤ 65535 → read_in from text ≡ all words [] → shape words ≡ Good
    → length (text_of to words) ≤ 65535 → length (text_of to words) ≤ length buffer
    → reform from to text buffer ≡ record { answer = record { code = 0; number = length (text_of to words) }; written = text_of to words }
unfolding reform judge write_good deliver
moves from to text words buffer s l g t r =
    simp (reform, le-ltb 65535 (length text) s, l, judge, g, write_good, le-ltb 65535 (length (text_of to words)) t, deliver, le-ltb (length buffer) (length (text_of to words)) r)

-- So are the two texts of an image of good shape that both fit the limit, from either form to either.
pub image_moves : (from to : Form) (img buffer : List ℕ) → shape img ≡ Good → Small img → length (text_of from img) ≤ 65535 → length (text_of to img) ≤ 65535
    → length (text_of to img) ≤ length buffer
    → reform from to (text_of from img) buffer ≡ record { answer = record { code = 0; number = length (text_of to img) }; written = text_of to img }
image_moves from to img buffer g m s t r = moves from to (text_of from img) img buffer s (image_in img g m from) g t r

-- Where a move says done, this is what stood before it.
pub record Moved (from to : Form) (text buffer : List ℕ) : Type 0 where
  pub words : List ℕ
  pub short : length text ≤ 65535
  pub lines : read_in from text ≡ all words []
  pub good : shape words ≡ Good
  pub fits : length (text_of to words) ≤ 65535
  pub room : length (text_of to words) ≤ length buffer

pub moved : (from to : Form) (text buffer : List ℕ) → (reform from to text buffer).answer.code ≡ 0 → Moved from to text buffer
unfolding reform judge write_good deliver
moved from to text buffer done = long (ltb 65535 (length text)) refl
  where
    room : (w : List ℕ) → ltb 65535 (length text) ≡ false → read_in from text ≡ all w [] → shape w ≡ Good → ltb 65535 (length (text_of to w)) ≡ false
        → (x : Bool) → ltb (length buffer) (length (text_of to w)) ≡ x → Moved from to text buffer
    room w a b c d true e = let z : ◌≡◌ {A = ℕ} 3 0 = simp (reform, a, b, judge, c, write_good, d, deliver, e) at done in absurd (omega arith)
    room w a b c d false e = record {
      words = w;
      short = ltb-false 65535 (length text) a;
      lines = b;
      good = c;
      fits = ltb-false 65535 (length (text_of to w)) d;
      room = ltb-false (length buffer) (length (text_of to w)) e;
    }

    target : (w : List ℕ) → ltb 65535 (length text) ≡ false → read_in from text ≡ all w [] → shape w ≡ Good → (x : Bool) → ltb 65535 (length (text_of to w)) ≡ x → Moved from to text buffer
    target w a b c true d = let z : ◌≡◌ {A = ℕ} 2 0 = simp (reform, a, b, judge, c, write_good, d) at done in absurd (omega arith)
    target w a b c false d = room w a b c d (ltb (length buffer) (length (text_of to w))) refl

    formed : (w : List ℕ) → ltb 65535 (length text) ≡ false → read_in from text ≡ all w [] → (v : Verdict) → shape w ≡ v → Moved from to text buffer
    formed w a b Good c = target w a b c (ltb 65535 (length (text_of to w))) refl
    formed w a b (Wrong p) c = let z : ◌≡◌ {A = ℕ} 4 0 = simp (reform, a, b, judge, c) at done in absurd (omega arith)

    lined : ltb 65535 (length text) ≡ false → (l : Lines) → read_in from text ≡ l → Moved from to text buffer
    lined a (wrong_from c) b = let z : ◌≡◌ {A = ℕ} 1 0 = simp (reform, a, b, judge) at done in absurd (omega arith)
    lined a (all w c) b = formed w a (b ∙ ap (all w) (read-nil from text w c b)) (shape w) refl

    long : (x : Bool) → ltb 65535 (length text) ≡ x → Moved from to text buffer
    long true a = let z : ◌≡◌ {A = ℕ} 2 0 = simp (reform, a) at done in absurd (omega arith)
    long false a = lined a (read_in from text) refl

-- A text that was moved returns to its own bytes, where there is room for them.
pub returns : (from to : Form) (text buffer out : List ℕ) → (reform from to text buffer).answer.code ≡ 0 → length text ≤ length out
    → reform to from (reform from to text buffer).written out ≡ record { answer = record { code = 0; number = length text }; written = text }
returns from to text buffer out done l =
    let m = moved from to text buffer done in
    let t = text_back from text m.words m.lines in
    let w = image_in m.words m.good (text_small from text m.words m.lines) to in
    rw (moves from to text m.words buffer m.short m.lines m.good m.fits m.room)
    (rw t at (moves to from (text_of to m.words) m.words out m.fits w m.good (rw t m.short) (rw t l)))
