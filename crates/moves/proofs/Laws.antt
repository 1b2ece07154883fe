-- The moves: what the first line says, what a source that is refused gives, and what one that is read gives.
use mathlib.Core.Path.{◌≡◌, refl, sym, ap, ◌∙◌}
use mathlib.Core.List.{List, [], ◌∷◌, ◌++◌}
use Prim.Native.Nat.{ℕ, ◌-◌, ◌<◌, ◌≤◌}
use native.Mathlib.Omega.{arith}
use lib.ListN.{length, take, drop}
use lib.Seq.{take_at}
use borrow.Author.Tests.{lt-ltb, le-ltb}
use Rattle.numbers.specs.declared.Answer.{Answer}
use Rattle.numbers.specs.Verdicts.{Verdict, Good, Wrong}
use Rattle.numbers.specs.Codes.{not_the_form, text_too_long, longest_text}
use Rattle.numbers.specs.Front.{Delivery, Delivers, buffer_after}
use Rattle.numbers.proofs.Laws.{answer, deliver_all}
use Rattle.pack.specs.Image.{largest_image}
use Rattle.pack.specs.Laid.{Sized}
use Rattle.shape.specs.Shape.{shape}
use Rattle.shape.proofs.Good.{good_laid, largest_image_lem}
use Rattle.text.specs.declared.Form.{Form}
use Rattle.text.specs.declared.Form.TheVariants.{One, Two}
use Rattle.text.specs.Form.{pack_line}
use Rattle.text.specs.Reader.{Line, Lines, expect, then_lines, as_line, read_head, read_in, form_of, read_all, judge, read}
use Rattle.text.specs.Reader.Line.{wrong, took}
use Rattle.text.specs.Reader.Lines.{wrong_from, all}
use Rattle.text.specs.Reform.{reform}
use Rattle.text.specs.Writer.{write_good}
use Rattle.text.proofs.Lines.{expect_name, expect_told}
use Rattle.text.proofs.RoundTrip.{accepted}
use Rattle.moves.specs.Forms.{other}

-- ---- the first line
-- What is expected stands there or not, whatever was read before.
expect_wrong : (name w v bytes : List ℕ) → expect name w bytes ≡ wrong → expect name v bytes ≡ wrong
expect_wrong name w v bytes e = go (expect name v bytes) refl
  where
    go : (x : Line) → expect name v bytes ≡ x → expect name v bytes ≡ wrong
    go wrong f = f
    go (took u rest) f =
        let p = (expect_told name v bytes u rest f).1 in
        let z : took w rest ≡ wrong = sym (rw p at (expect_name name w rest)) ∙ e in
        let y : ◌≡◌ {A = ℕ} 0 1 = cc in absurd (omega arith)

wrong_first : (form : Form) (text : List ℕ) → expect (pack_line form) (1 ∷ []) text ≡ wrong → read_in form text ≡ wrong_from text
unfolding read_in read_head then_lines as_line
wrong_first form text e = rw e

-- A text of the form that it is to be moved to.
pub other_two : (text : List ℕ) → form_of text ≡ Two → read_in One text ≡ wrong_from text
unfolding form_of expect pack_line
other_two text e = go (expect (pack_line Two) [] text) refl
  where
    go : (x : Line) → expect (pack_line Two) [] text ≡ x → read_in One text ≡ wrong_from text
    go wrong f = let z : One ≡ Two = sym (simp (form_of, f)) ∙ e in let y : ◌≡◌ {A = ℕ} 0 1 = cc in absurd (omega arith)
    go (took w rest) f = rw (← (expect_told (pack_line Two) [] text w rest f).1) (wrong_first One (pack_line Two ++ rest) refl)

pub other_one : (text : List ℕ) → form_of text ≡ One → read_in Two text ≡ wrong_from text
unfolding form_of
other_one text e = go (expect (pack_line Two) [] text) refl
  where
    go : (x : Line) → expect (pack_line Two) [] text ≡ x → read_in Two text ≡ wrong_from text
    go wrong f = wrong_first Two text (expect_wrong (pack_line Two) [] (1 ∷ []) text f)
    go (took w rest) f = let z : Two ≡ One = sym (simp (form_of, f)) ∙ e in let y : ◌≡◌ {A = ℕ} 0 1 = cc in absurd (omega arith)

pub same_form : (to : Form) (text : List ℕ) → form_of text ≡ to → read_in (other to) text ≡ wrong_from text
same_form One text e = other_one text e
same_form Two text e = other_two text e

-- ---- the source
fits : (w : List ℕ) → shape w ≡ Good → length w ≤ largest_image
fits w g = let l = good_laid w g in omega (arith, l.whole, largest_image_lem w l.sized)

module _ (text img : List ℕ) (short : length text ≤ longest_text) (large : largest_image ≤ length img) where
  -- Where the reader refuses a source, it is refused alike whatever would follow.
  pub refused : ((read text img).answer.code ≡ 0 → ⊥) → (next : List ℕ → Delivery)
      → judge (length text) next (read_all text) ≡ record { answer = (read text img).answer; written = [] }
  unfolding read judge
  refused z next = lined (read_all text) refl
    where
      formed : (w b : List ℕ) → read_all text ≡ all w b → (v : Verdict) → shape w ≡ v
          → judge (length text) next (read_all text) ≡ record { answer = (read text img).answer; written = [] }
      formed w b e Good g =
          absurd (z (simp (read, le-ltb longest_text (length text) short, e, judge, g, deliver_all w (length img) (omega (arith, fits w g)))))
      formed w b e (Wrong p) g = simp (read, le-ltb longest_text (length text) short, e, judge, g)

      lined : (l : Lines) → read_all text ≡ l → judge (length text) next (read_all text) ≡ record { answer = (read text img).answer; written = [] }
      lined (wrong_from b) e = simp (read, le-ltb longest_text (length text) short, e, judge)
      lined (all w b) e = formed w b e (shape w) refl

  pub refuse_is : (to : Form) (b : List ℕ) {a : Answer} → a ≡ (read text img).answer → (a.code ≡ 0 → ⊥)
      → Delivers (judge (length text) (λ w. write_good to w (length b)) (read_all text)) b b a
  refuse_is to b e z = rw (refused (λ d. z (ap (λ (r : Answer). r.code) e ∙ d)) (λ w. write_good to w (length b))) (record { given = e; left = refl })

  module _ {a : Answer} {img' : List ℕ} (e : a ≡ (read text img).answer) (f : img' ≡ buffer_after img (read text img)) (d : a.code ≡ 0) where
    done : (read text img).answer.code ≡ 0
    done = sym (ap (λ (r : Answer). r.code) e) ∙ d

    pub words_fit : a.number ≤ length img
    words_fit =
        let k = accepted text img done in
        let n : a.number ≡ length k.words = ap (λ (r : Answer). r.number) e ∙ rw k.whole in
        omega (arith, n, k.room)

    taken : take a.number img' ≡ (accepted text img done).words
    taken =
        let k = accepted text img done in
        let n : a.number ≡ length k.words = ap (λ (r : Answer). r.number) e ∙ rw k.whole in
        let g : img' ≡ k.words ++ drop (length k.words) img = f ∙ rw k.whole in
        ap (take a.number) g ∙ take_at k.words (drop (length k.words) img) a.number (sym n)

    pub words_sized : Sized (take a.number img')
    words_sized = rw taken (good_laid (accepted text img done).words (accepted text img done).good).sized

    pub write_is : (to : Form) (b b' : List ℕ) (r : Answer) → Delivers (write_good to (take a.number img') (length b)) b b' r
        → Delivers (judge (length text) (λ w. write_good to w (length b)) (read_all text)) b b' r
    unfolding judge
    write_is to b b' r q =
        let k = accepted text img done in
        simp (k.lines, judge, k.good) (rw taken at q)

-- ---- the whole
module _ (from to : Form) (text b : List ℕ) where
  pub move_long : longest_text < length text → (answer text_too_long 0 ≡ (reform from to text b).answer) × (b ≡ buffer_after b (reform from to text b))
  unfolding reform
  move_long h = (simp (reform, lt-ltb _ _ h), simp (reform, lt-ltb _ _ h))

  module _ (h : length text ≤ longest_text) where
    pub move_other : read_in from text ≡ wrong_from text → (answer not_the_form 0 ≡ (reform from to text b).answer) × (b ≡ buffer_after b (reform from to text b))
    unfolding reform judge
    move_other e =
        let z : length text - length text ≡ 0 = omega arith in
        (simp (reform, le-ltb _ _ h, e, judge, z), simp (reform, le-ltb _ _ h, e, judge))

    pub move_is : form_of text ≡ from → (b' : List ℕ) (r : Answer) → Delivers (judge (length text) (λ w. write_good to w (length b)) (read_all text)) b b' r
        → (r ≡ (reform from to text b).answer) × (b' ≡ buffer_after b (reform from to text b))
    unfolding reform read_all
    move_is e b' r q =
        let p : Delivers (judge (length text) (λ w. write_good to w (length b)) (read_in from text)) b b' r = rw e at q in
        (simp (reform, le-ltb _ _ h) p.given, simp (reform, le-ltb _ _ h) p.left)

-- The scratch image has room for any.
pub image_fits : largest_image ≤ 20589
image_fits = omega arith
