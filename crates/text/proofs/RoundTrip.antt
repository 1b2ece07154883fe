-- Round trips. The text of an image of good shape is read back as that image, and what the reader accepts has good shape.
use mathlib.Core.Path.{◌≡◌, refl, sym, ap, ◌∙◌}
use mathlib.Core.Bool.{Bool, true, false}
use mathlib.Core.List.{List, [], ◌∷◌, ◌++◌, append_assoc, append-nil}
use Prim.Native.Nat.{ℕ, ◌+◌, ◌*◌, ◌<◌, ◌≤◌}
use native.Mathlib.Nat.{zero-add}
use native.Mathlib.Omega.{arith}
use lib.Dec.{ltb}
use lib.ListN.{length, take}
use lib.Seq.{take-length, get_or-take, length-take-le}
use borrow.Author.Tests.{lt-ltb, le-ltb, ltb-false, leb-true, eqb-true}
use Rattle.numbers.specs.Verdicts.{Verdict, Good, Wrong}
use Rattle.pack.specs.Image.{word, productions, prod_start, layout_at, len, symbol}
use Rattle.rules.specs.Rules.{symbol_right}
use Rattle.shape.specs.Shape.{each, size_rule, symbol_rule, prod_rule, head_rules, parser_rules, shape}
use Rattle.shape.proofs.Laws.{rule_good, and_then_good, each_good, each_all}
use Rattle.shape.proofs.Good.{good_laid}
use Rattle.text.specs.declared.Row.TheVariants.{Numbers, Sets, Production, Group}
use Rattle.text.specs.declared.Form.{Form}
use Rattle.text.specs.declared.Form.TheVariants.{One, Two}
use Rattle.numbers.specs.Front.{deliver}
use Rattle.text.specs.Form.{pack_line, cells_in, sizes, tables_of, row_width, table_words}
use Rattle.text.specs.Reader.{Lines, then_read, expect, then_lines, as_line, read_tables, limited, read_head, ended, read_in, form_of, read_all, judge, read}
use Rattle.text.specs.Reader.Line.{took}
use Rattle.text.specs.Reader.Lines.{wrong_from, all}
use Rattle.text.specs.Writer.{row_text, lines_text, tables_text, text_of, write_good, write}
use Rattle.text.proofs.Lines.{Small, expect_name}
use Rattle.text.proofs.Tables.{tables_needed, tables_take}
use Rattle.text.proofs.ImageTrip.{ProdRight, Right, take_one, row_back, tables_back}
use Rattle.text.proofs.TextTrip.{text_back}
use Rattle.text.proofs.ImageTrip.Right.{no_more, more}

-- No other row is a production.
numbers_not : (n : ℕ) → Numbers n ≡ Production → ⊥
numbers_not n e = let z : ◌≡◌ {A = ℕ} 0 1 = cc in absurd (omega arith)

cells_not : (form : Form) (n : ℕ) → cells_in form n ≡ Production → ⊥
unfolding cells_in
cells_not One n e = let z : ◌≡◌ {A = ℕ} 0 1 = cc in absurd (omega arith)
cells_not Two n e = let z : ◌≡◌ {A = ℕ} 0 1 = cc in absurd (omega arith)

sets_not : (n : ℕ) → Sets n ≡ Production → ⊥
sets_not n e = let z : ◌≡◌ {A = ℕ} 0 1 = cc in absurd (omega arith)

group_not : Group ≡ Production → ⊥
group_not e = let z : ◌≡◌ {A = ℕ} 0 1 = cc in absurd (omega arith)

line_one : (name row rest : List ℕ) → ((name ++ row) ++ []) ++ rest ≡ name ++ (row ++ rest)
line_one name row rest = ap (λ (l : List ℕ). l ++ rest) (append-nil (name ++ row)) ∙ append_assoc name row rest

-- The first line of a text tells its form.
form_line : (form : Form) (rest : List ℕ) → form_of (pack_line form ++ rest) ≡ form
unfolding form_of pack_line expect
form_line One rest = refl
form_line Two rest = refl

pub form_of_lem : (form : Form) (img : List ℕ) → form_of (text_of form img) ≡ form
unfolding text_of
form_of_lem form img = form_line form _

-- ---- what good shape gives
module _ (img : List ℕ) (good : shape img ≡ Good) where
  prods : each (prod_rule img) (productions img) 0 ≡ Good
  unfolding shape parser_rules
  prods = (and_then_good _ _ (and_then_good _ _ (and_then_good _ _ (and_then_good _ _ (and_then_good _ _ good).1).0).1).1).0

  first : word img 0 ≡ 1
  unfolding shape head_rules
  first = eqb-true _ _ (rule_good _ _ (and_then_good _ _ (and_then_good _ _ good).0).0)

  prod_right : (p : ℕ) → p < productions img → ProdRight img (prod_start img + p * 16)
  unfolding prod_rule symbol_rule len symbol
  prod_right p h =
      let r : prod_rule img p ≡ Good = rw (zero-add p) at (each_good (prod_rule img) (productions img) 0 prods p h) in
      let a = and_then_good _ _ (and_then_good _ _ r).1 in record {
        most = leb-true _ _ (rule_good _ _ a.0);
        unused = λ j l k.
            let q = rule_good _ _ (each_good (symbol_rule img p) 14 0 a.1 j k) in
            eqb-true _ _ (simp (zero-add, symbol_right, le-ltb j _ l) at q);
      }

  -- Only the third table has productions.
  tables_right : (form : Form) → Right img (tables_of form img) layout_at
  unfolding tables_of row_width cells_in
  tables_right form =
      more (λ k h e. absurd (sets_not 1 e))
      (more (λ k h e. absurd (sets_not 1 e))
      (more (λ k h e. prod_right k h)
      (more (λ k h e. absurd (cells_not form _ e))
      (more (λ k h e. absurd (cells_not form _ e))
      (more (λ k h e. absurd (numbers_not 3 e))
      (more (λ k h e. absurd (cells_not form _ e))
      (more (λ k h e. absurd (sets_not 3 e))
      (more (λ k h e. absurd (group_not e))
      no_more))))))))

  all_words : (form : Form) → layout_at + table_words (tables_of form img) ≡ length img
  all_words form = tables_needed form img ∙ sym (good_laid img good).whole

  nine : 9 ≤ length img
  nine = omega (arith, all_words One)

  sizes_good : each (size_rule img) 8 1 ≡ Good
  unfolding shape head_rules
  sizes_good = (and_then_good _ _ (and_then_good _ _ (and_then_good _ _ good).0).1).0

  -- The first nine words have the same sizes.
  size_front : (i : ℕ) → i < 8 → size_rule (take 9 img) (1 + i) ≡ Good
  unfolding size_rule
  size_front i h =
      let r : size_rule img (1 + i) ≡ Good = each_good (size_rule img) 8 1 sizes_good i h in
      let l = length-take-le 9 img nine in
      simp (l, get_or-take 9 img (1 + i) 0 (omega arith), lt-ltb (1 + i) 9 (omega arith)) (simp (lt-ltb (1 + i) (length img) (omega (arith, nine))) at r)

  limited_front : (rest : List ℕ) → limited (take 9 img) rest ≡ took (take 9 img) rest
  unfolding limited
  limited_front rest = simp (limited, each_all (size_rule (take 9 img)) 8 1 size_front)

  tables_same : (form : Form) → tables_of form (take 9 img) ≡ tables_of form img
  tables_same form = tables_take form img 9 (omega arith)

  module _ (small : Small img) where
    head_back : (form : Form) (rest : List ℕ) → read_head form (pack_line form ++ (lines_text sizes.name sizes.row sizes.lines img 1 ++ rest)) ≡ all (take 9 img) rest
    unfolding read_head then_lines as_line then_read sizes lines_text row_width
    head_back form rest =
        let o : 1 ∷ [] ≡ take 1 img = ap (λ (v : ℕ). v ∷ []) (sym first) ∙ take_one img small 0 (omega (arith, nine)) in
        let n = sizes.name in
        let t : lines_text n (Numbers 8) 1 img 1 ++ rest ≡ n ++ (row_text (Numbers 8) img 1 ++ rest) = line_one n (row_text (Numbers 8) img 1) rest in
        rw (
          expect_name (pack_line form) (1 ∷ []) (lines_text n (Numbers 8) 1 img 1 ++ rest),
          t,
          o,
          expect_name n (take 1 img) (row_text (Numbers 8) img 1 ++ rest),
          row_back img small (Numbers 8) 1 rest (omega (arith, nine)) (λ e. absurd (numbers_not 8 e)),
          limited_front rest,
        )

    -- The text of an image of good shape is read back as that image, in either form.
    pub image_in : (form : Form) → read_in form (text_of form img) ≡ all img []
    unfolding read_in text_of then_lines ended
    image_in form =
        let x = tables_text (tables_of form img) img layout_at in
        let w : read_tables (tables_of form img) (take 9 img) x ≡ all img [] =
        ap (read_tables (tables_of form img) (take 9 img)) (sym (append-nil x)) ∙ tables_back img small (tables_of form img) layout_at [] (omega (arith, all_words form)) (tables_right form)
        ∙ rw (all_words form, take-length img) in
        rw (head_back form x, tables_same form, w)

    pub image_back : (form : Form) → read_all (text_of form img) ≡ all img []
    unfolding read_all
    image_back form = rw (form_of_lem form img) (image_in form)

    -- So a reader with room enough gives done and exactly that image.
    pub image_read : (form : Form) (buffer : List ℕ) → length (text_of form img) ≤ 65535 → length img ≤ length buffer
        → read (text_of form img) buffer ≡ record { answer = record { code = 0; number = length img }; written = img }
    unfolding read judge deliver
    image_read form buffer h l = simp (read, le-ltb 65535 (length (text_of form img)) h, image_back form, judge, good, deliver, le-ltb (length buffer) (length img) l)

-- ---- what the reader accepts
ended-nil : (l : Lines) (w b : List ℕ) → then_lines l ended ≡ all w b → b ≡ []
unfolding then_lines ended
ended-nil (wrong_from c) w b e = let z : ◌≡◌ {A = ℕ} 0 1 = cc in absurd (omega arith)
ended-nil (all u []) w b e = cc
ended-nil (all u (x ∷ c)) w b e = let z : ◌≡◌ {A = ℕ} 0 1 = cc in absurd (omega arith)

pub read-nil : (form : Form) (text w b : List ℕ) → read_in form text ≡ all w b → b ≡ []
unfolding read_in
read-nil form text w b e = ended-nil _ w b e

-- Where it says done: the text is not too long, all its lines are right, the words have good shape, and there was room for them.
pub record Accepted (text buffer : List ℕ) : Type 0 where
  pub words : List ℕ
  pub short : length text ≤ 65535
  pub lines : read_all text ≡ all words []
  pub good : shape words ≡ Good
  pub room : length words ≤ length buffer
  pub whole : read text buffer ≡ record { answer = record { code = 0; number = length words }; written = words }

pub accepted : (text buffer : List ℕ) → (read text buffer).answer.code ≡ 0 → Accepted text buffer
unfolding read read_all judge deliver
accepted text buffer done = long (ltb 65535 (length text)) refl
  where
    room : (w : List ℕ) → ltb 65535 (length text) ≡ false → read_all text ≡ all w [] → shape w ≡ Good → (x : Bool) → ltb (length buffer) (length w) ≡ x → Accepted text buffer
    room w a b c true d = let z : ◌≡◌ {A = ℕ} 3 0 = simp (read, a, b, judge, c, deliver, d) at done in absurd (omega arith)
    room w a b c false d = record {
      words = w;
      short = ltb-false 65535 (length text) a;
      lines = b;
      good = c;
      room = ltb-false (length buffer) (length w) d;
      whole = simp (read, a, b, judge, c, deliver, d);
    }

    formed : (w : List ℕ) → ltb 65535 (length text) ≡ false → read_all text ≡ all w [] → (v : Verdict) → shape w ≡ v → Accepted text buffer
    formed w a b Good c = room w a b c (ltb (length buffer) (length w)) refl
    formed w a b (Wrong p) c = let z : ◌≡◌ {A = ℕ} 4 0 = simp (read, a, b, judge, c) at done in absurd (omega arith)

    lined : ltb 65535 (length text) ≡ false → (l : Lines) → read_all text ≡ l → Accepted text buffer
    lined a (wrong_from c) b = let z : ◌≡◌ {A = ℕ} 1 0 = simp (read, a, b, judge) at done in absurd (omega arith)
    lined a (all w c) b = formed w a (b ∙ ap (all w) (read-nil (form_of text) text w c b)) (shape w) refl

    long : (x : Bool) → ltb 65535 (length text) ≡ x → Accepted text buffer
    long true a = let z : ◌≡◌ {A = ℕ} 2 0 = simp (read, a) at done in absurd (omega arith)
    long false a = lined a (read_all text) refl

-- What the reader accepts has good shape.
pub shape-read : (text buffer : List ℕ) → (read text buffer).answer.code ≡ 0 → shape (read text buffer).written ≡ Good
shape-read text buffer done = let a = accepted text buffer done in rw a.whole a.good

-- Its text in the form that was read is the text that was read, byte for byte.
pub text_all : (text words : List ℕ) → read_all text ≡ all words [] → text_of (form_of text) words ≡ text
unfolding read_all
text_all text words e = text_back (form_of text) text words e

pub text_read : (text buffer : List ℕ) → (read text buffer).answer.code ≡ 0 → text_of (form_of text) (read text buffer).written ≡ text
text_read text buffer done = let a = accepted text buffer done in rw a.whole (text_all text a.words a.lines)

-- In a form no two texts have one image, and no text has two.
pub one_text : (form : Form) (a b words : List ℕ) → read_in form a ≡ all words [] → read_in form b ≡ all words [] → a ≡ b
one_text form a b words p q = sym (text_back form a words p) ∙ text_back form b words q

pub one_image : (text a b : List ℕ) → read_all text ≡ all a [] → read_all text ≡ all b [] → a ≡ b
one_image text a b p q = cc

-- What was read is written as it stood, where there is room for it.
pub text_written : (text buffer out : List ℕ) → (read text buffer).answer.code ≡ 0 → length text ≤ length out
    → write (form_of text) (read text buffer).written out ≡ record { answer = record { code = 0; number = length text }; written = text }
unfolding write write_good deliver
text_written text buffer out done l =
    let a = accepted text buffer done in
    let t = text_all text a.words a.lines in
    rw a.whole (simp (write, a.good, write_good, t, le-ltb 65535 (length text) a.short, deliver, le-ltb (length out) (length text) l))
