-- Round trip from the text: what is read determines the bytes that it was read from, field by field, row by row, line by line and
-- table by table.
use mathlib.Core.Path.{◌≡◌, refl, sym, ap, ◌∙◌}
use mathlib.Core.Bool.{Bool, true, false}
use mathlib.Core.List.{List, [], ◌∷◌, ◌++◌, append_assoc, append-nil}
use Prim.Native.Nat.{ℕ, zero, suc, ◌+◌, ◌*◌, ◌-◌, ◌<◌, ◌≤◌}
use native.Mathlib.Nat.{zero-add, suc-mul, add-zero}
use native.Mathlib.Omega.{arith}
use lib.Dec.{leb}
use lib.ListN.{length, get_or, take, drop, length-append}
use lib.Seq.{take-length, take-take, take-append_seam, get_or-append-add, get_or-take}
use borrow.Author.Tests.{leb-true, leb-false}
use Rattle.text.specs.declared.Field.{Field}
use Rattle.text.specs.declared.Form.{Form}
use Rattle.text.specs.declared.Kind.{Kind}
use Rattle.text.specs.declared.Kind.TheVariants.{Number, Set}
use Rattle.text.specs.declared.Row.{Row}
use Rattle.text.specs.declared.Row.TheVariants.{Numbers, Cells, Sets, Production, Group}
use Rattle.text.specs.Decimal.{read_number}
use Rattle.text.specs.Fields.{greatest_word, read_set, read_field, words_of, width_of, hex_word, field_text}
use Rattle.text.specs.Form.{Table, newline, comma, after, column_text, pack_line, sizes, tables_of, row_width, table_words}
use Rattle.text.specs.Reader.{Line, Lines, then_read, expect, field_then, read_fields, read_code, read_cell, read_cells, zeros, read_symbols, read_row, then_lines, as_line, read_lines, read_tables, limited, read_head, ended, read_in}
use Rattle.text.specs.Reader.Line.{wrong, took}
use Rattle.text.specs.Reader.Lines.{wrong_from, all}
use Rattle.text.specs.Writer.{fields_text, cells_text, row_text, lines_text, tables_text, text_of}
use Rattle.numbers.specs.Verdicts.{Verdict, Good, Wrong}
use Rattle.pack.specs.Image.{layout_at}
use Rattle.shape.specs.Shape.{each, size_rule}
use Rattle.text.proofs.Decimal.{number_text, number_small, number_unread}
use Rattle.text.proofs.Hex.{value_words, set_text}
use Rattle.text.proofs.Lines.{Small, small_none, small_as, small_cons, small_four, small_append, small_zeros, expect_told, not_wrong, field_none, field_then_lem, symbols_none, symbols_much, symbols_go}
use Rattle.text.proofs.Cells.{cells_none, cells_some, code_some, code_none, text_none, text_some}
use Rattle.text.proofs.Tables.{tables_take}

-- The image begins with these words.
abbrev pub Begins : List ℕ → List ℕ → Type 0
Begins img w = take (length w) img ≡ w

-- Reading from `bytes`, after the words w, came to the words w' and left `rest`: k more words, and for each image that begins with
-- them the text of what was read stood there. Words of 16 bits stay such.
pub record Told (k : ℕ) (text : List ℕ → ℕ → List ℕ) (w bytes w' rest : List ℕ) : Type 0 where
  pub long : length w' ≡ length w + k
  pub front : Begins w' w
  pub stood : (img : List ℕ) → Begins img w' → text img (length w) ++ rest ≡ bytes
  pub small : Small w → Small w'

begins_back : (img w w' : List ℕ) → length w ≤ length w' → Begins w' w → Begins img w' → Begins img w
begins_back img w w' l f b = sym (take-take (length w) (length w') img l) ∙ ap (take (length w)) b ∙ f

-- Two parts one after the other; another name for the text.
pub told_two : {k₁ k₂ : ℕ} {t₁ t₂ : List ℕ → ℕ → List ℕ} {w bytes w₁ r₁ w₂ r₂ : List ℕ} → Told k₁ t₁ w bytes w₁ r₁ → Told k₂ t₂ w₁ r₁ w₂ r₂
    → Told (k₁ + k₂) (λ img i. t₁ img i ++ t₂ img (i + k₁)) w bytes w₂ r₂
told_two {k₁} {k₂} {t₁} {t₂} {w} {bytes} {w₁} {r₁} {w₂} {r₂} p q = record {
  long = omega (arith, p.long, q.long);
  front = begins_back w₂ w w₁ (omega (arith, p.long)) p.front q.front;
  stood = λ img b.
      let c = begins_back img w₁ w₂ (omega (arith, q.long)) q.front b in
      append_assoc (t₁ img (length w)) (t₂ img (length w + k₁)) r₂ ∙ ap (λ (l : List ℕ). t₁ img (length w) ++ l) (rw (← p.long) (q.stood img b)) ∙ p.stood img c;
  small = λ s. q.small (p.small s);
}

pub told_as : {k : ℕ} {t : List ℕ → ℕ → List ℕ} {w bytes w' rest : List ℕ} (k' : ℕ) (t' : List ℕ → ℕ → List ℕ) → k' ≡ k
    → ((img : List ℕ) → Begins img w' → t' img (length w) ≡ t img (length w)) → Told k t w bytes w' rest → Told k' t' w bytes w' rest
told_as {rest = rest} k' t' e f p = record {
  long = rw e p.long;
  front = p.front;
  stood = λ img b. ap (λ (l : List ℕ). l ++ rest) (f img b) ∙ p.stood img b;
  small = p.small;
}

told_same : {k : ℕ} {t : List ℕ → ℕ → List ℕ} {w bytes u b : List ℕ} (w' rest : List ℕ) → u ≡ w' → b ≡ rest → Told k t w bytes u b → Told k t w bytes w' rest
told_same w' rest e f p = rw (← e, ← f) p

-- Words that no bytes stand for.
told_words : (w vs bytes : List ℕ) → Small vs → Told (length vs) (λ img i. []) w bytes (w ++ vs) bytes
told_words w vs bytes v = record { long = length-append w vs; front = take-append_seam w vs; stood = λ img b. refl; small = λ s. small_append w vs s v }

-- ---- bytes that stood next
told_name : (name w bytes w' rest : List ℕ) → expect name w bytes ≡ took w' rest → Told 0 (λ img i. name) w bytes w' rest
told_name name w bytes w' rest e =
    let p = expect_told name w bytes w' rest e in
    record { long = rw p.0 (sym (add-zero (length w'))); front = rw p.0 (take-length w'); stood = λ img b. p.1; small = λ s. rw (← p.0) s }

-- ---- a field
word_at : (img w vs : List ℕ) (n : ℕ) → n < length vs → Begins img (w ++ vs) → get_or img (length w + n) 0 ≡ get_or vs n 0
word_at img w vs n h b =
    sym (get_or-take (length (w ++ vs)) img (length w + n) 0 (omega (arith, length-append w vs))) ∙ ap (λ (l : List ℕ). get_or l (length w + n) 0) b ∙ get_or-append-add w vs n 0

-- The first word behind w.
word_here : (img w vs : List ℕ) → 0 < length vs → Begins img (w ++ vs) → get_or img (length w) 0 ≡ get_or vs 0 0
word_here img w vs h b = rw (add-zero (length w)) at (word_at img w vs 0 h b)

field_words : (kind : Kind) (w bytes img : List ℕ) → ((read_field kind bytes).used ≡ 0 → ⊥) → Begins img (w ++ words_of kind (read_field kind bytes).value)
    → field_text kind img (length w) ++ drop (read_field kind bytes).used bytes ≡ bytes
unfolding read_field words_of field_text hex_word
field_words Number w bytes img z b =
    rw (word_here img w ((read_number greatest_word bytes).value ∷ []) (omega arith) b) (number_text greatest_word bytes z)
field_words Set w bytes img z b =
    let s = set_text bytes z in
    let vs = s.a ∷ s.b ∷ s.c ∷ s.d ∷ [] in
    let e : words_of Set (read_set bytes).value ≡ vs = ap (λ (f : Field). words_of Set f.value) s.value ∙ value_words s.a s.b s.c s.d s.a_small s.b_small s.c_small s.d_small in
    let c : Begins img (w ++ vs) = rw e at b in
    let u : (read_set bytes).used ≡ 16 = ap (λ (f : Field). f.used) s.value in
    rw (u, word_at img w vs 3 (omega arith) c, word_at img w vs 2 (omega arith) c, word_at img w vs 1 (omega arith) c, word_here img w vs (omega arith) c)
    (ap (λ (l : List ℕ). hex_word s.d (hex_word s.c (hex_word s.b (hex_word s.a (drop 16 l))))) s.is ∙ sym s.is)

field_small : (kind : Kind) (bytes : List ℕ) → ((read_field kind bytes).used ≡ 0 → ⊥) → Small (words_of kind (read_field kind bytes).value)
unfolding read_field words_of
field_small Number bytes z = small_cons _ [] (omega (arith, number_small greatest_word bytes)) small_none
field_small Set bytes z =
    let s = set_text bytes z in
    small_as (ap (λ (f : Field). words_of Set f.value) s.value ∙ value_words s.a s.b s.c s.d s.a_small s.b_small s.c_small s.d_small)
    (small_four s.a s.b s.c s.d s.a_small s.b_small s.c_small s.d_small)

width_is : (kind : Kind) (v : ℕ) → length (words_of kind v) ≡ width_of kind
unfolding words_of
width_is Number v = refl
width_is Set v = refl

module _ (kind : Kind) (c : ℕ) (w bytes w' rest : List ℕ) (e : field_then kind c w bytes ≡ took w' rest) where
  field_used : (read_field kind bytes).used ≡ 0 → ⊥
  field_used z = not_wrong w' rest (sym (field_none kind c w bytes (read_field kind bytes) refl z) ∙ e)

  field_parts : ((w ++ words_of kind (read_field kind bytes).value) ≡ w') × (c ∷ rest ≡ drop (read_field kind bytes).used bytes)
  field_parts = expect_told (c ∷ []) _ _ w' rest (sym (field_then_lem kind c w bytes (read_field kind bytes) refl field_used) ∙ e)

  pub field_told : Told (width_of kind) (λ img i. field_text kind img i ++ (c ∷ [])) w bytes w' rest
  field_told =
      let vs = words_of kind (read_field kind bytes).value in record {
        long = rw (← field_parts.0) (length-append w vs ∙ ap (λ (n : ℕ). length w + n) (width_is kind (read_field kind bytes).value));
        front = rw (← field_parts.0) (take-append_seam w vs);
        stood = λ img b.
            append_assoc (field_text kind img (length w)) (c ∷ []) rest ∙ ap (λ (l : List ℕ). field_text kind img (length w) ++ l) field_parts.1
            ∙ field_words kind w bytes img field_used (rw (← field_parts.0) at b);
        small = λ s. rw (← field_parts.0) (small_append w vs s (field_small kind bytes field_used));
      }

-- ---- one part after the other
record Then (l : Line) (f : List ℕ → List ℕ → Line) (w' rest : List ℕ) : Type 0 where
  w₁ : List ℕ
  r₁ : List ℕ
  one : l ≡ took w₁ r₁
  two : f w₁ r₁ ≡ took w' rest

then_told : (l : Line) (f : List ℕ → List ℕ → Line) (w' rest : List ℕ) → then_read l f ≡ took w' rest → Then l f w' rest
unfolding then_read
then_told wrong f w' rest e = absurd (not_wrong w' rest e)
then_told (took w b) f w' rest e = record { w₁ = w; r₁ = b; one = refl; two = e }

told_none : (w bytes w' rest : List ℕ) → took w bytes ≡ took w' rest → Told 0 (λ img i. []) w bytes w' rest
unfolding expect
told_none w bytes w' rest e = told_name [] w bytes w' rest e

-- ---- fields
pub fields_told : (kind : Kind) (n end : ℕ) (w bytes w' rest : List ℕ) → read_fields kind n end w bytes ≡ took w' rest → Told (n * width_of kind) (fields_text kind n end) w bytes w' rest
unfolding read_fields fields_text
fields_told kind zero end w bytes w' rest e = told_as _ _ (omega arith) (λ img b. refl) (told_none w bytes w' rest e)
fields_told kind (suc n) end w bytes w' rest e =
    let p = then_told _ _ w' rest e in
    told_as _ _ (omega (arith, suc-mul n (width_of kind))) (λ img b. sym (append_assoc (field_text kind img (length w)) (after n end ∷ []) (fields_text kind n end img (length w + width_of kind))))
    (told_two (field_told kind (after n end) w bytes p.w₁ p.r₁ p.one) (fields_told kind n end p.w₁ p.r₁ w' rest p.two))

-- ---- cells
code_told : (w bytes w' rest : List ℕ) → read_code w bytes ≡ took w' rest
    → (get_or w' (length w) 0 ≡ 0 → ⊥) × Told 1 (field_text Number) w bytes w' rest
unfolding read_field words_of
code_told w bytes w' rest e =
    let n = read_number greatest_word bytes in
    let v : n.value ≡ 0 → ⊥ = λ z. not_wrong w' rest (sym (code_none w bytes n refl z) ∙ e) in
    let u : n.used ≡ 0 → ⊥ = λ z. v (number_unread greatest_word bytes z) in
    let q : took (w ++ (n.value ∷ [])) (drop n.used bytes) ≡ took w' rest = sym (code_some w bytes n refl v) ∙ e in
    let s : (w ++ (n.value ∷ [])) ≡ w' = cc in
    let t : drop n.used bytes ≡ rest = cc in (
      λ z. v (sym (word_here w' w (n.value ∷ []) (omega arith) (rw (← s) (take-length (w ++ (n.value ∷ []))))) ∙ z),
      record {
        long = rw (← s) (length-append w (n.value ∷ []));
        front = rw (← s) (take-append_seam w (n.value ∷ []));
        stood = λ img b. rw (← t) (field_words Number w bytes img u (rw (← s) at b));
        small = λ o. rw (← s) (small_append w (n.value ∷ []) o (field_small Number bytes u));
      },
    )

cell_told : (first : Bool) (column : ℕ) (w bytes w' rest : List ℕ) → read_cell first column w bytes ≡ took w' rest
    → Then (expect (column_text first column) w bytes) read_code w' rest
unfolding read_cell
cell_told first column w bytes w' rest e = then_told _ _ w' rest e

pub cells_told : (n : ℕ) (first : Bool) (column : ℕ) (w bytes w' rest : List ℕ) → read_cells first n column w bytes ≡ took w' rest → Told n (cells_text first n column) w bytes w' rest
unfolding read_cells cells_text
cells_told zero first column w bytes w' rest e = told_name (newline ∷ []) w bytes w' rest e
cells_told (suc n) first column w bytes w' rest e = go (λ f u b. cells_told n f (column + 1) u b w' rest) (read_cell first column w bytes) refl
  where
    go : ((f : Bool) (u b : List ℕ) → read_cells f n (column + 1) u b ≡ took w' rest → Told n (cells_text f n (column + 1)) u b w' rest)
        → (x : Line) → read_cell first column w bytes ≡ x → Told (suc n) (cells_text first (suc n) column) w bytes w' rest
    go ih wrong p =
        let t = ih first (w ++ (0 ∷ [])) bytes (sym (cells_none first n column w bytes p) ∙ e) in
        told_as (suc n) (cells_text first (suc n) column) (omega arith)
        (λ img o. text_none first n column img (length w) (word_here img w (0 ∷ []) (omega arith) (begins_back img (w ++ (0 ∷ [])) w' (omega (arith, t.long)) t.front o)))
        (told_two (told_words w (0 ∷ []) bytes (small_cons 0 [] (omega arith) small_none)) t)
    go ih (took v r) p =
        let q = cell_told first column w bytes v r p in
        let s = (expect_told (column_text first column) w bytes q.w₁ q.r₁ q.one).0 in
        let c = code_told q.w₁ q.r₁ v r q.two in
        let t = ih false v r (sym (cells_some first n column w bytes v r p) ∙ e) in
        let l : length w < length v = omega (arith, c.1.long, ap length s) in
        told_as (suc n) (cells_text first (suc n) column) (omega arith)
        (λ img o.
        let i : Begins img v = begins_back img v w' (omega (arith, t.long)) t.front o in
        let g : get_or img (length w) 0 ≡ get_or v (length w) 0 = sym (get_or-take (length v) img (length w) 0 l) ∙ ap (λ (x : List ℕ). get_or x (length w) 0) i in
        rw (add-zero (length w)) (text_some first n column img (length w) (λ z. c.0 (rw (← s) (sym g ∙ z)))))
        (told_two (told_name (column_text first column) w bytes q.w₁ q.r₁ q.one) (told_two c.1 t))

-- ---- a production
zeros-length : (n : ℕ) → length (zeros n) ≡ n
unfolding zeros
zeros-length zero = refl
zeros-length (suc n) = ap suc (zeros-length n)

abbrev symbols_text : List ℕ → ℕ → List ℕ
symbols_text img i = field_text Number img i ++ (after (get_or img i 0) newline ∷ fields_text Number (get_or img i 0) newline img (i + 1))

symbols_told : (w bytes w' rest : List ℕ) → read_symbols w bytes ≡ took w' rest → Told 15 symbols_text w bytes w' rest
unfolding read_field words_of
symbols_told w bytes w' rest e = go (leb (read_number greatest_word bytes).value 14) refl
  where
    used : (read_number greatest_word bytes).used ≡ 0 → ⊥
    used z = not_wrong w' rest (sym (symbols_none w bytes (read_number greatest_word bytes) refl z) ∙ e)

    go : (x : Bool) → leb (read_number greatest_word bytes).value 14 ≡ x → Told 15 symbols_text w bytes w' rest
    go false g = absurd (not_wrong w' rest (sym (symbols_much w bytes (read_number greatest_word bytes) refl used (leb-false _ _ g)) ∙ e))
    go true g =
        let n = (read_number greatest_word bytes).value in
        let l = leb-true n 14 g in
        let p = then_told _ _ w' rest (sym (symbols_go w bytes (read_number greatest_word bytes) refl used l) ∙ e) in
        let q = then_told _ _ w' rest p.two in
        let s : (q.w₁ ++ zeros (14 - n)) ≡ w' = cc q.two in
        let t : q.r₁ ≡ rest = cc q.two in
        let v : (w ++ (n ∷ [])) ≡ p.w₁ = (expect_told (after n newline ∷ []) _ _ p.w₁ p.r₁ p.one).0 in
        let a = field_told Number (after n newline) w bytes p.w₁ p.r₁ (field_then_lem Number (after n newline) w bytes (read_number greatest_word bytes) refl used ∙ p.one) in
        let b = fields_told Number n newline p.w₁ p.r₁ q.w₁ q.r₁ q.one in
        let c : Told (length (zeros (14 - n))) (λ img i. []) q.w₁ q.r₁ w' rest = told_same w' rest s t (told_words q.w₁ (zeros (14 - n)) q.r₁ (small_zeros (14 - n))) in
        let bc = told_two b c in
        told_as 15 symbols_text (omega (arith, zeros-length (14 - n)))
        (λ img o.
        let i : Begins img p.w₁ = begins_back img p.w₁ w' (omega (arith, bc.long)) bc.front o in
        let h : get_or img (length w) 0 ≡ n = word_here img w (n ∷ []) (omega arith) (rw (← v) at i) in
        rw (h, append-nil (fields_text Number n newline img (length w + 1))) (sym (append_assoc (field_text Number img (length w)) (after n newline ∷ []) (fields_text Number n newline img (length w + 1)))))
        (told_two a bc)

-- ---- rows
production_text : (img : List ℕ) (i : ℕ) → fields_text Number (2 + get_or img (i + 1) 0) newline img i ≡ (field_text Number img i ++ (comma ∷ [])) ++ symbols_text img (i + 1)
unfolding fields_text after
production_text img i =
    let z : 2 + get_or img (i + 1) 0 ≡ suc (suc (get_or img (i + 1) 0)) = omega arith in
    ap (λ (n : ℕ). fields_text Number n newline img i) z ∙ sym (append_assoc (field_text Number img i) (comma ∷ []) _)

group_text : (img : List ℕ) (i : ℕ) → fields_text Set 1 comma img i ++ fields_text Number 1 newline img (i + 4)
    ≡ (field_text Set img i ++ (comma ∷ [])) ++ (field_text Number img (i + 4) ++ (newline ∷ []))
unfolding fields_text after
group_text img i = refl

row_told : (row : Row) (w bytes w' rest : List ℕ) → read_row row w bytes ≡ took w' rest → Told (row_width row) (row_text row) w bytes w' rest
unfolding read_row row_text row_width
row_told (Numbers n) w bytes w' rest e = told_as _ _ (omega arith) (λ img b. refl) (fields_told Number n newline w bytes w' rest e)
row_told (Cells n) w bytes w' rest e = cells_told n true 0 w bytes w' rest e
row_told (Sets n) w bytes w' rest e = fields_told Set n newline w bytes w' rest e
row_told Production w bytes w' rest e =
    let p = then_told _ _ w' rest e in
    told_as _ _ (omega arith) (λ img b. production_text img (length w)) (told_two (field_told Number comma w bytes p.w₁ p.r₁ p.one) (symbols_told p.w₁ p.r₁ w' rest p.two))
row_told Group w bytes w' rest e =
    let p = then_told _ _ w' rest e in
    told_as _ _ (omega arith) (λ img b. group_text img (length w)) (told_two (field_told Set comma w bytes p.w₁ p.r₁ p.one) (field_told Number newline p.w₁ p.r₁ w' rest p.two))

-- ---- lines
record ThenLines (l : Lines) (f : List ℕ → List ℕ → Lines) (w' rest : List ℕ) : Type 0 where
  w₁ : List ℕ
  r₁ : List ℕ
  one : l ≡ all w₁ r₁
  two : f w₁ r₁ ≡ all w' rest

not_from : (b w rest : List ℕ) → wrong_from b ≡ all w rest → ⊥
not_from b w rest e = let z : ◌≡◌ {A = ℕ} 0 1 = cc in omega arith

then_lines_lem : (l : Lines) (f : List ℕ → List ℕ → Lines) (w' rest : List ℕ) → then_lines l f ≡ all w' rest → ThenLines l f w' rest
unfolding then_lines
then_lines_lem (wrong_from b) f w' rest e = absurd (not_from b w' rest e)
then_lines_lem (all w b) f w' rest e = record { w₁ = w; r₁ = b; one = refl; two = e }

as_line_lem : (start : List ℕ) (l : Line) (w rest : List ℕ) → as_line start l ≡ all w rest → l ≡ took w rest
unfolding as_line
as_line_lem start wrong w rest e = absurd (not_from start w rest e)
as_line_lem start (took u b) w rest e = let p : u ≡ w = cc in let q : b ≡ rest = cc in rw (p, q)

line_told : (name : List ℕ) (row : Row) (w bytes w' rest : List ℕ) → then_read (expect name w bytes) (read_row row) ≡ took w' rest
    → Told (row_width row) (λ img i. name ++ row_text row img i) w bytes w' rest
line_told name row w bytes w' rest e =
    let p = then_told _ _ w' rest e in
    told_as _ _ (sym (zero-add (row_width row))) (λ img b. rw (add-zero (length w)))
    (told_two (told_name name w bytes p.w₁ p.r₁ p.one) (row_told row p.w₁ p.r₁ w' rest p.two))

lines_told : (name : List ℕ) (row : Row) (n : ℕ) (w bytes w' rest : List ℕ) → read_lines name row n w bytes ≡ all w' rest → Told (n * row_width row) (lines_text name row n) w bytes w' rest
unfolding read_lines lines_text
lines_told name row zero w bytes w' rest e =
    let p : w ≡ w' = cc in
    let q : bytes ≡ rest = cc in
    told_as _ _ (omega arith) (λ img b. refl) (told_none w bytes w' rest (rw (p, q)))
lines_told name row (suc n) w bytes w' rest e =
    let p = then_lines_lem _ _ w' rest e in
    told_as _ _ (omega (arith, suc-mul n (row_width row))) (λ img b. refl)
    (told_two (line_told name row w bytes p.w₁ p.r₁ (as_line_lem bytes _ p.w₁ p.r₁ p.one)) (lines_told name row n p.w₁ p.r₁ w' rest p.two))

-- ---- tables
tables_told : (tables : List Table) (w bytes w' rest : List ℕ) → read_tables tables w bytes ≡ all w' rest → Told (table_words tables) (tables_text tables) w bytes w' rest
unfolding read_tables tables_text table_words
tables_told [] w bytes w' rest e =
    let p : w ≡ w' = cc in
    let q : bytes ≡ rest = cc in
    told_as _ _ refl (λ img b. refl) (told_none w bytes w' rest (rw (p, q)))
tables_told (t ∷ tables) w bytes w' rest e =
    let p = then_lines_lem _ _ w' rest e in
    told_as _ _ refl (λ img b. refl) (told_two (lines_told t.name t.row t.lines w bytes p.w₁ p.r₁ p.one) (tables_told tables p.w₁ p.r₁ w' rest p.two))

-- ---- the first two lines
limited_same : (u v w rest : List ℕ) → limited u v ≡ took w rest → (u ≡ w) × (v ≡ rest)
unfolding limited
limited_same u v w rest e = go (each (size_rule u) 8 1) refl
  where
    go : (x : Verdict) → each (size_rule u) 8 1 ≡ x → (u ≡ w) × (v ≡ rest)
    go Good g = let z : took u v ≡ took w rest = simp (limited, g) at e in (cc, cc)
    go (Wrong p) g = absurd (not_wrong w rest (simp (limited, g) at e))

pub record Head (form : Form) (text w rest : List ℕ) : Type 0 where
  pub long : length w ≡ 9
  pub small : Small w
  pub stood : (img : List ℕ) → Begins img w → pack_line form ++ (lines_text sizes.name sizes.row sizes.lines img 1 ++ rest) ≡ text

head_told : (form : Form) (text w rest : List ℕ) → read_head form text ≡ all w rest → Head form text w rest
unfolding read_head sizes row_width lines_text
head_told form text w rest e =
    let p = then_lines_lem _ _ w rest e in
    let a = expect_told (pack_line form) (1 ∷ []) text p.w₁ p.r₁ (as_line_lem text _ p.w₁ p.r₁ p.one) in
    let q = then_told _ _ w rest (as_line_lem p.r₁ _ w rest p.two) in
    let s = limited_same q.w₁ q.r₁ w rest q.two in
    let t = told_same w rest s.0 s.1 (line_told sizes.name (Numbers 8) p.w₁ p.r₁ q.w₁ q.r₁ q.one) in
    let n : length p.w₁ ≡ 1 = ap length (sym a.0) in record {
      long = omega (arith, t.long, n);
      small = t.small (rw (← a.0) (small_cons 1 [] (omega arith) small_none));
      stood = λ img b.
          let c = rw n at (t.stood img b) in
          ap (λ (l : List ℕ). pack_line form ++ l) (ap (λ (l : List ℕ). l ++ rest) (append-nil (sizes.name ++ row_text (Numbers 8) img 1)) ∙ c) ∙ a.1;
    }

-- ---- the whole: the text of what was read is the text that it was read from.
ended_told : (w b words : List ℕ) → ended w b ≡ all words [] → (w ≡ words) × (b ≡ [])
unfolding ended
ended_told w [] words e = (cc, refl)
ended_told w (x ∷ b) words e = absurd (not_from (x ∷ b) words [] e)

back : (form : Form) (text words : List ℕ) → read_in form text ≡ all words [] → (text_of form words ≡ text) × Small words
unfolding read_in text_of
back form text words e =
    let p = then_lines_lem _ _ words [] e in
    let q = then_lines_lem _ _ p.w₁ p.r₁ p.one in
    let d = ended_told p.w₁ p.r₁ words p.two in
    let h = head_told form text q.w₁ q.r₁ q.one in
    let t = told_same words [] d.0 d.1 (tables_told (tables_of form q.w₁) q.w₁ q.r₁ p.w₁ p.r₁ q.two) in
    let b = take-length words in
    let f : take 9 words ≡ q.w₁ = rw h.long at t.front in
    let s : tables_of form q.w₁ ≡ tables_of form words = ap (tables_of form) (sym f) ∙ tables_take form words 9 (omega arith) in
    let u : tables_text (tables_of form words) words layout_at ≡ q.r₁ = sym (append-nil _) ∙ (rw (h.long, s) at (t.stood words b)) in
    (ap (λ (l : List ℕ). pack_line form ++ (lines_text sizes.name sizes.row sizes.lines words 1 ++ l)) u ∙ h.stood words t.front, t.small h.small)

pub text_back : (form : Form) (text words : List ℕ) → read_in form text ≡ all words [] → text_of form words ≡ text
text_back form text words e = (back form text words e).0

pub text_small : (form : Form) (text words : List ℕ) → read_in form text ≡ all words [] → Small words
text_small form text words e = (back form text words e).1
