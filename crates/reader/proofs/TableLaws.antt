-- The first two lines, the tables, the whole text, and what is given and left: over plain variables.
use mathlib.Core.Path.{◌≡◌, refl, sym, ap, ◌∙◌}
use mathlib.Core.Bool.{true, false}
use mathlib.Core.List.{List, [], ◌∷◌, ◌++◌, append_assoc, append-nil}
use Prim.Native.Nat.{ℕ, ◌+◌, ◌*◌, ◌-◌, ◌<◌, ◌≤◌}
use native.Mathlib.Omega.{arith}
use lib.ListN.{length, take, drop, set, length-set, length-take, length-drop, length-append}
use lib.Seq.{take-suc-set, take_at}
use borrow.Author.Tests.{lt-ltb, le-ltb}
use borrow.Rule.Slice.PartMut.{put_mid}
use Rattle.pack.specs.Image.{largest_image, needed}
use Rattle.numbers.specs.declared.Answer.{Answer}
use Rattle.numbers.specs.Codes.{not_the_form, text_too_long, wrong_shape, longest_text}
use Rattle.numbers.specs.Front.{deliver, Delivers, buffer_after}
use Rattle.numbers.proofs.Laws.{answer}
use Rattle.pack.specs.Laid.{Sized}
use Rattle.numbers.specs.Verdicts.{Verdict, Good, Wrong, is_wrong}
use Rattle.shape.specs.Shape.{each, size_rule, shape}
use Rattle.shape.proofs.Laws.{is_good, is_wrong_lem, sizes_sized}
use Rattle.text.specs.declared.Form.{Form}
use Rattle.text.specs.declared.Row.{Row}
use Rattle.text.specs.Form.{pack_line, sizes, tables_of, table_at, table_words, row_width}
use Rattle.std.specs.Prelude.{Result, Ok, Err, MatchResult}
use Rattle.std.proofs.lemmas.Slice.{take-put_mid}
use Rattle.text.specs.Reader.{Line, Lines, then_read, expect, read_row, then_lines, as_line, read_lines, read_tables, limited, read_head, ended, read_in, form_of, read_all, judge, read}
use Rattle.text.specs.Reader.Line.{wrong, took}
use Rattle.text.specs.Reader.Lines.{wrong_from, all}
use Rattle.text.proofs.Tables.{tables_from, tables_on, tables_end, words_on, tables_fit, tables_needed}
use Rattle.fields.specs.Steps.{IsWrong, Reads}
use Rattle.rows.proofs.RowLaws.{put_last}
use Rattle.readlines.specs.Steps.{ReadsLines, WrongFrom}

-- ---- the first two lines
module _ (form : Form) (text : List ℕ) where
  pub head_wrong : IsWrong (expect (pack_line form)) text → read_head form text ≡ wrong_from text
  unfolding read_head then_lines as_line
  head_wrong q = simp (read_head, q.line (1 ∷ []))

  module _ (rest : List ℕ) (b : Reads (expect (pack_line form)) text [] rest) where
    head_went : read_head form text ≡ as_line rest (then_read (then_read (expect sizes.name (1 ∷ []) rest) (read_row sizes.row)) limited)
    unfolding read_head then_lines as_line
    head_went = simp (read_head, b.line (1 ∷ []))

    pub size_wrong : IsWrong (λ w b. then_read (expect sizes.name w b) (read_row sizes.row)) rest → read_head form text ≡ wrong_from rest
    unfolding then_read as_line
    size_wrong q = head_went ∙ rw (q.line (1 ∷ []))

    module _ (words left head : List ℕ) (q : Reads (λ w b. then_read (expect sizes.name w b) (read_row sizes.row)) rest words left) (e : head ≡ 1 ∷ words)
        (v : Verdict) (s : v ≡ each (size_rule head) 8 1) where
      limits : each (size_rule (1 ∷ words)) 8 1 ≡ v
      limits = rw (← e) (sym s)

      pub limits_broken : is_wrong v ≡ true → read_head form text ≡ wrong_from rest
      unfolding then_read as_line limited
      limits_broken g = let x = is_wrong_lem v g in head_went ∙ rw (q.line (1 ∷ [])) (simp (limited, limits ∙ x.1))

      pub limits_kept : is_wrong v ≡ false → read_head form text ≡ all head left
      unfolding then_read as_line limited
      limits_kept g = head_went ∙ rw (q.line (1 ∷ [])) (simp (limited, limits ∙ is_good v g, e))

pub head_row : (head words : List ℕ) → length head ≡ 9 → length words ≡ length (take (length (set head 0 1) - 1) (drop 1 (set head 0 1)))
    → put_mid 1 (length (set head 0 1) - 1) (set head 0 1) words ≡ 1 ∷ words
head_row head words h l =
    let s : length (set head 0 1) ≡ 9 = simp length-set h in
    let k = length (set head 0 1) - 1 in
    let y : take 1 (set head 0 1) ≡ 1 ∷ [] = take-suc-set head 0 1 (omega arith) in
    put_last 1 k (set head 0 1) words (omega arith) (omega (arith, l, length-take k (drop 1 (set head 0 1)), length-drop 1 (set head 0 1))) ∙ rw y

-- Where they are right, the sizes are within their limits.
limited_limits : (u v w rest b : List ℕ) → as_line b (limited u v) ≡ all w rest → each (size_rule w) 8 1 ≡ Good
unfolding limited as_line
limited_limits u v w rest b = go (each (size_rule u) 8 1) refl
  where
    go : (x : Verdict) → each (size_rule u) 8 1 ≡ x → as_line b (limited u v) ≡ all w rest → each (size_rule w) 8 1 ≡ Good
    go Good e q = let z : all u v ≡ all w rest = simp (limited, as_line, e) at q in let y : u ≡ w = cc in rw (← y) e
    go (Wrong p) e q = let z : wrong_from b ≡ all w rest = simp (limited, as_line, e) at q in let y : ◌≡◌ {A = ℕ} 0 1 = cc in absurd (omega arith)

line_limits : (x : Line) (b w rest : List ℕ) → as_line b (then_read x limited) ≡ all w rest → each (size_rule w) 8 1 ≡ Good
unfolding as_line then_read
line_limits wrong b w rest e = let y : ◌≡◌ {A = ℕ} 0 1 = cc in absurd (omega arith)
line_limits (took u v) b w rest e = limited_limits u v w rest b e

pub head_limits : (form : Form) (text w rest : List ℕ) → read_head form text ≡ all w rest → each (size_rule w) 8 1 ≡ Good
unfolding read_head then_lines as_line
head_limits form text w rest e = go (expect (pack_line form) (1 ∷ []) text) e
  where
    go : (x : Line) → then_lines (as_line text x) (λ w rest. as_line rest (then_read (then_read (expect sizes.name w rest) (read_row sizes.row)) limited)) ≡ all w rest
        → each (size_rule w) 8 1 ≡ Good
    go wrong q = let y : ◌≡◌ {A = ℕ} 0 1 = cc in absurd (omega arith)
    go (took u v) q = line_limits (then_read (expect sizes.name u v) (read_row sizes.row)) v w rest q

pub head_sized : (form : Form) (text head rest : List ℕ) → read_head form text ≡ all head rest → Sized head
head_sized form text head rest e = sizes_sized _ (head_limits form text _ _ e)

pub needed_most : (form : Form) (text head rest : List ℕ) → read_head form text ≡ all head rest → needed head ≤ largest_image
needed_most form text head rest e = omega (arith, tables_fit form head (head_sized form text head rest e), tables_needed form head)

-- ---- tables
-- The tables that are left, from where the reading stands, give what all of them give.
module _ (form : Form) (head bytes left so_far : List ℕ) (i : ℕ)
    (same : (w : List ℕ) → read_tables (tables_of form head) w bytes ≡ read_tables (tables_from form head i) (w ++ so_far) left) where
  pub tables_done : (tables : List ℕ) → 9 ≤ i → so_far ≡ tables → length left ≤ length bytes → ReadsLines (read_tables (tables_of form head)) bytes tables left
  unfolding read_tables
  tables_done tables h e l = record { lines = λ w. same w ∙ rw (tables_end form head i h, e); within = l }

  module _ (h : i < 9) where
    tables_go : (w : List ℕ) → read_tables (tables_from form head i) w left
        ≡ then_lines (read_lines (table_at form head i).name (table_at form head i).row (table_at form head i).lines w left) (read_tables (tables_from form head (i + 1)))
    unfolding read_tables
    tables_go w = rw (tables_on form head i h)

    pub tables_wrong : (from : List ℕ) → length left ≤ length bytes
        → WrongFrom (read_lines (table_at form head i).name (table_at form head i).row (table_at form head i).lines) left from → WrongFrom (read_tables (tables_of form head)) bytes from
    unfolding then_lines
    tables_wrong from l q = record { lines = λ w. same w ∙ tables_go (w ++ so_far) ∙ rw (q.lines (w ++ so_far)); within = omega (arith, l, q.within) }

    pub table_on : (words rest tables : List ℕ) → ReadsLines (read_lines (table_at form head i).name (table_at form head i).row (table_at form head i).lines) left words rest
        → tables ≡ so_far ++ words → (w : List ℕ) → read_tables (tables_of form head) w bytes ≡ read_tables (tables_from form head (i + 1)) (w ++ tables) rest
    unfolding then_lines
    table_on words rest tables q e w = same w ∙ tables_go (w ++ so_far) ∙ rw (q.lines (w ++ so_far), e, append_assoc w so_far words)

-- The words of a table in their place.
pub table_room : (form : Form) (head : List ℕ) (i words lines width : ℕ) (row : Row) (tables : List ℕ) → Sized head → i < 9
    → words + table_words (tables_from form head i) ≡ length tables → length tables ≡ table_words (tables_of form head)
    → lines ≡ (table_at form head i).lines → row ≡ (table_at form head i).row → width ≡ row_width row
    → (words + lines * width + table_words (tables_from form head (i + 1)) ≡ length tables) × (lines * width ≤ largest_image)
table_room form head i words lines width row tables z h f w el er ew =
    let o = words_on form head i h in
    rw (el, ew, er) (omega (arith, o, f), omega (arith, o, f, w, tables_fit form head z))

pub table_put : (words next : ℕ) (tables new : List ℕ) → words ≤ next → next ≤ length tables → length new ≡ length (take (next - words) (drop words tables))
    → take next (put_mid words (next - words) tables new) ≡ take words tables ++ new
table_put words next tables new h l e =
    take-put_mid words (next - words) tables new next (omega (arith, e, length-take (next - words) (drop words tables), length-drop words tables)) (omega arith)

pub tables_full : (form : Form) (head : List ℕ) (i words : ℕ) (tables : List ℕ) → 9 ≤ i → words + table_words (tables_from form head i) ≡ length tables → length tables ≤ words
unfolding table_words
tables_full form head i words tables h f = let z : table_words (tables_from form head i) ≡ 0 = rw (tables_end form head i h) in omega arith

pub told : {T E : Type 0} (o : Result T E) {A C : T → Type 0} {B D : E → Type 0} → MatchResult o A B → ((x : T) → A x → C x) → ((e : E) → B e → D e) → MatchResult o C D
told (Ok x) m f g = f x m
told (Err e) m f g = g e m

-- The image: the head, and the tables behind it.
module _ (head front img : List ℕ) (e : front ≡ head) (h : length head ≡ 9) where
  pub tables_whole : (form : Form) → length img ≡ needed head
      → length (take (length (front ++ drop 9 img) - 9) (drop 9 (front ++ drop 9 img))) ≡ table_words (tables_of form head)
  tables_whole form l =
      let y = front ++ drop 9 img in
      omega (arith, h, ap length e, length-take (length y - 9) (drop 9 y), length-drop 9 y, length-append front (drop 9 img), length-drop 9 img, tables_needed form head)

  pub head_then : (words : List ℕ) → 9 ≤ length img → length words ≡ length (take (length (front ++ drop 9 img) - 9) (drop 9 (front ++ drop 9 img)))
      → put_mid 9 (length (front ++ drop 9 img) - 9) (front ++ drop 9 img) words ≡ head ++ words
  head_then words l m =
      let y = front ++ drop 9 img in
      let g : length front ≡ 9 = ap length e ∙ h in
      put_last 9 (length y - 9) y words (omega (arith, length-append front (drop 9 img))) (omega (arith, m, length-take (length y - 9) (drop 9 y), length-drop 9 y))
      ∙ rw (take_at front (drop 9 img) 9 g, e)

pub image_long : (form : Form) (head img : List ℕ) → length img ≡ needed head → 9 ≤ length img
image_long form head img l = omega (arith, l, tables_needed form head)

-- What stands behind the head.
module _ (form : Form) (head rest : List ℕ) where
  pub rest_wrong : (from : List ℕ) → WrongFrom (read_tables (tables_of form head)) rest from
      → (then_lines (read_tables (tables_of form head) head rest) ended ≡ wrong_from from) × (length from ≤ length rest)
  unfolding then_lines
  rest_wrong from q = (rw (q.lines head), q.within)

  module _ (words left : List ℕ) (q : ReadsLines (read_tables (tables_of form head)) rest words left) where
    pub rest_more : (from : List ℕ) → WrongFrom ended left from
        → (then_lines (read_tables (tables_of form head) head rest) ended ≡ wrong_from from) × (length from ≤ length rest)
    unfolding then_lines
    rest_more from p = (rw (q.lines head) (p.lines (head ++ words)), omega (arith, p.within, q.within))

    pub rest_done : (img : List ℕ) → ReadsLines ended left [] [] → img ≡ head ++ words → then_lines (read_tables (tables_of form head) head rest) ended ≡ all img []
    unfolding then_lines
    rest_done img p e = rw (q.lines head, e) (p.lines (head ++ words) ∙ rw (append-nil (head ++ words)))

-- ---- the whole
module _ (form : Form) (text : List ℕ) where
  pub in_wrong : (from : List ℕ) → read_head form text ≡ wrong_from from → read_in form text ≡ wrong_from from
  unfolding read_in then_lines
  in_wrong from e = simp (read_in, e)

  pub in_rest : (head rest : List ℕ) → read_head form text ≡ all head rest → read_in form text ≡ then_lines (read_tables (tables_of form head) head rest) ended
  unfolding read_in then_lines
  in_rest head rest e = simp (read_in, e)

-- ---- words that were read
module _ (words b : List ℕ) (room : ℕ) where
  pub judge_wrong : (place : ℕ) → shape words ≡ Wrong place → Delivers (judge 0 (λ w. deliver w room) (all words [])) b b (answer wrong_shape place)
  unfolding judge
  judge_wrong place e = record { given = simp (judge, e); left = simp (judge, e) }

  pub judge_good : (b' : List ℕ) (r : Answer) → shape words ≡ Good → Delivers (deliver words room) b b' r → Delivers (judge 0 (λ w. deliver w room) (all words [])) b b' r
  unfolding judge
  judge_good b' r e q = simp (judge, e) q

-- ---- the lines of a text
module _ (lines : Lines) (text b : List ℕ) (room : ℕ) where
  pub by_wrong : (from : List ℕ) → lines ≡ wrong_from from → Delivers (judge (length text) (λ w. deliver w room) lines) b b (answer not_the_form (length text - length from))
  unfolding judge
  by_wrong from e = record { given = simp (e, judge); left = simp (e, judge) }

  pub by_done : (img img' b' : List ℕ) (r : Answer) → lines ≡ all img [] → img' ≡ img → Delivers (judge 0 (λ w. deliver w room) (all img' [])) b b' r
      → Delivers (judge (length text) (λ w. deliver w room) lines) b b' r
  unfolding judge
  by_done img img' b' r e f q = rw (e, ← f) q

-- ---- the reader
module _ (text b : List ℕ) where
  pub read_long : longest_text < length text → (answer text_too_long 0 ≡ (read text b).answer) × (b ≡ buffer_after b (read text b))
  unfolding read
  read_long h = (simp (read, lt-ltb _ _ h), simp (read, lt-ltb _ _ h))

  pub read_is : (form : Form) (b' : List ℕ) (r : Answer) → form ≡ form_of text → length text ≤ longest_text
      → Delivers (judge (length text) (λ w. deliver w (length b)) (read_in form text)) b b' r
      → (r ≡ (read text b).answer) × (b' ≡ buffer_after b (read text b))
  unfolding read read_all
  read_is form b' r e h q = (simp (read, read_all, le-ltb _ _ h, ← e) q.given, simp (read, read_all, le-ltb _ _ h, ← e) q.left)
