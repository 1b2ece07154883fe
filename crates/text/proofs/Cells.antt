-- Cells in form 2, as they are read and as they are written: what stands before a code tells its column.
use mathlib.Core.Path.{◌≡◌, refl, sym, ap, ◌∙◌}
use mathlib.Core.Bool.{Bool, true, false}
use mathlib.Core.List.{List, [], ◌∷◌, ◌++◌, append_assoc, append-nil}
use Prim.Native.Nat.{ℕ, zero, suc, ◌+◌, ◌-◌, ◌<◌, ◌≤◌}
use native.Mathlib.Nat.{add-zero, sub-zero}
use native.Mathlib.Omega.{arith}
use lib.Dec.{eqb}
use lib.ListN.{length, get_or, drop}
use Rattle.text.specs.declared.Field.{Field}
use Rattle.text.specs.declared.Kind.TheVariants.{Number}
use Rattle.text.specs.Decimal.{is_digit, read_number, decimal}
use Rattle.text.specs.Fields.{greatest_word, read_field, field_text}
use Rattle.text.specs.Form.{newline, comma, colon, before, column_text}
use Rattle.text.specs.Reader.{Line, then_read, expect, zeros, read_code, read_cell, read_cells}
use Rattle.text.specs.Reader.Line.{wrong, took}
use Rattle.text.specs.Writer.{cells_text}
use Rattle.text.proofs.Decimal.{field, number_text, number_back, number_no_digit, decimal_some}
use Rattle.text.proofs.Lines.{expect_next, expect_name, expect-cons, expect_told, not_wrong}

-- ---- a code
module _ (w bytes : List ℕ) (f : Field) (e : f ≡ read_number greatest_word bytes) where
  pub code_none : f.value ≡ 0 → read_code w bytes ≡ wrong
  unfolding read_code read_field
  code_none z = simp (read_code, read_field, ← e, z)

  pub code_some : (f.value ≡ 0 → ⊥) → read_code w bytes ≡ took (w ++ (f.value ∷ [])) (drop f.used bytes)
  unfolding read_code read_field
  code_some z = go f.value refl
    where
      go : (v : ℕ) → f.value ≡ v → read_code w bytes ≡ took (w ++ (f.value ∷ [])) (drop f.used bytes)
      go zero p = absurd (z p)
      go (suc v) p = simp (read_code, read_field, ← e, p)

-- ---- a cell
expect-append : (a b w rest : List ℕ) → expect (a ++ b) w (a ++ rest) ≡ expect b w rest
expect-append [] b w rest = refl
expect-append (c ∷ a) b w rest = expect-cons c (a ++ b) w (a ++ rest) ∙ expect-append a b w rest

-- Where a column and a colon stand next, a number stands there, and it is the column.
module _ (limit column : ℕ) (h : column ≤ limit) where
  column_told : (w bytes w' rest : List ℕ) → expect (decimal column ++ (colon ∷ [])) w bytes ≡ took w' rest
      → read_number limit bytes ≡ field column (length (decimal column))
  unfolding is_digit
  column_told w bytes w' rest e =
      let p = (expect_told (decimal column ++ (colon ∷ [])) w bytes w' rest e).1 in
      rw (← p, append_assoc (decimal column) (colon ∷ []) rest) (number_back limit column (colon ∷ rest) h refl)

  -- Behind what stands before a cell another number stands, or none.
  pub cell_other : (first : Bool) (w bytes : List ℕ) → (read_number limit bytes ≡ field column (length (decimal column)) → ⊥)
      → read_cell first column w (before first ++ bytes) ≡ wrong
  unfolding read_cell column_text then_read
  cell_other first w bytes z = rw (expect-append (before first) (decimal column ++ (colon ∷ [])) w bytes) (go (expect (decimal column ++ (colon ∷ [])) w bytes) refl)
    where
      go : (x : Line) → expect (decimal column ++ (colon ∷ [])) w bytes ≡ x → then_read x read_code ≡ wrong
      go wrong e = refl
      go (took w' rest) e = absurd (z (column_told w bytes w' rest e))

-- A number stands there, and the cell is its column's: the colon and the code are left.
pub cell_here : (first : Bool) (w bytes : List ℕ) (f : Field) → f ≡ read_number greatest_word bytes → (f.used ≡ 0 → ⊥)
    → read_cell first f.value w (before first ++ bytes) ≡ then_read (expect (colon ∷ []) w (drop f.used bytes)) read_code
unfolding read_cell column_text
cell_here first w bytes f e z =
    let t : decimal f.value ++ drop f.used bytes ≡ bytes = rw e (number_text greatest_word bytes (rw e at z)) in
    ap (λ (x : Line). then_read x read_code)
    (expect-append (before first) (decimal f.value ++ (colon ∷ [])) w bytes
    ∙ ap (expect (decimal f.value ++ (colon ∷ [])) w) (sym t)
    ∙ expect-append (decimal f.value) (colon ∷ []) w (drop f.used bytes))

-- No comma stands there.
expect_front : (c : ℕ) (name w v bytes : List ℕ) → expect (c ∷ []) v bytes ≡ wrong → expect (c ∷ name) w bytes ≡ wrong
unfolding expect
expect_front c name w v [] e = refl
expect_front c name w v (b ∷ bytes) e = go (eqb b c) refl
  where
    go : (x : Bool) → eqb b c ≡ x → expect (c ∷ name) w (b ∷ bytes) ≡ wrong
    go true p = absurd (not_wrong v bytes (sym (simp (expect, p) at e)))
    go false p = simp (expect, p)

pub cell_no_comma : (column : ℕ) (w v bytes : List ℕ) → expect (comma ∷ []) v bytes ≡ wrong → read_cell false column w bytes ≡ wrong
unfolding read_cell column_text before then_read
cell_no_comma column w v bytes e = rw (expect_front comma (decimal column ++ (colon ∷ [])) w v bytes e)

pub cell_code : (first : Bool) (column : ℕ) (w bytes : List ℕ) → read_cell first column w (column_text first column ++ bytes) ≡ read_code w bytes
unfolding read_cell then_read
cell_code first column w bytes = rw (expect_name (column_text first column) w bytes)

-- The line ends there.
cell_end : (first : Bool) (column : ℕ) (w rest : List ℕ) → read_cell first column w (newline ∷ rest) ≡ wrong
unfolding read_cell column_text before then_read expect is_digit
cell_end true column w rest =
    cell_other column column (omega arith) true w (newline ∷ rest)
    (λ z. decimal_some column (sym (ap (λ (f : Field). f.used) z) ∙ number_no_digit column (newline ∷ rest) refl))
cell_end false column w rest = refl

-- ---- the columns of a row
module _ (first : Bool) (n column : ℕ) (w bytes : List ℕ) where
  pub cells_none : read_cell first column w bytes ≡ wrong → read_cells first (suc n) column w bytes ≡ read_cells first n (column + 1) (w ++ (0 ∷ [])) bytes
  unfolding read_cells
  cells_none e = simp (read_cells, e)

  pub cells_some : (v rest : List ℕ) → read_cell first column w bytes ≡ took v rest → read_cells first (suc n) column w bytes ≡ read_cells false n (column + 1) v rest
  unfolding read_cells
  cells_some v rest e = simp (read_cells, e)

module _ (first : Bool) (n column : ℕ) (img : List ℕ) (at : ℕ) where
  pub text_none : get_or img at 0 ≡ 0 → cells_text first (suc n) column img at ≡ cells_text first n (column + 1) img (at + 1)
  unfolding cells_text
  text_none e = simp (cells_text, e)

  pub text_some : (get_or img at 0 ≡ 0 → ⊥)
      → cells_text first (suc n) column img at ≡ column_text first column ++ (field_text Number img at ++ cells_text false n (column + 1) img (at + 1))
  unfolding cells_text
  text_some z = go (get_or img at 0) refl
    where
      go : (v : ℕ) → get_or img at 0 ≡ v
          → cells_text first (suc n) column img at ≡ column_text first column ++ (field_text Number img at ++ cells_text false n (column + 1) img (at + 1))
      go zero p = absurd (z p)
      go (suc v) p = simp (cells_text, p)

-- Columns whose cells do not stand there are 0.
pub cells_skip : (d : ℕ) (first : Bool) (n column : ℕ) (w bytes : List ℕ) → d ≤ n → ((j : ℕ) → j < d → (v : List ℕ) → read_cell first (column + j) v bytes ≡ wrong)
    → read_cells first n column w bytes ≡ read_cells first (n - d) (column + d) (w ++ zeros d) bytes
unfolding zeros
cells_skip zero first n column w bytes h z = rw (sub-zero n, add-zero column, append-nil w)
cells_skip (suc d) first zero column w bytes h z = absurd (omega (arith, h))
cells_skip (suc d) first (suc n) column w bytes h z =
    let x : column + 1 + d ≡ column + suc d = omega arith in
    let y : suc n - suc d ≡ n - d = omega arith in
    cells_none first n column w bytes (rw (add-zero column) at (z 0 (omega arith) w))
    ∙ cells_skip d first n (column + 1) (w ++ (0 ∷ [])) bytes (omega (arith, h)) (λ j l v. let u : column + 1 + j ≡ column + suc j = omega arith in rw u (z (suc j) (omega (arith, l)) v))
    ∙ rw (x, y, append_assoc w (0 ∷ []) (zeros d))

-- Where none of them stands there and the line does not end, it is wrong.
pub cells_over : (first : Bool) (n column : ℕ) (w bytes : List ℕ) → ((j : ℕ) → j < n → (v : List ℕ) → read_cell first (column + j) v bytes ≡ wrong)
    → ((v : List ℕ) → expect (newline ∷ []) v bytes ≡ wrong) → read_cells first n column w bytes ≡ wrong
unfolding read_cells
cells_over first n column w bytes z e =
    let y : n - n ≡ 0 = omega arith in
    cells_skip n first n column w bytes (omega arith) z ∙ rw y (e (w ++ zeros n))

-- Where the line ends, none stands there.
pub cells_end : (first : Bool) (n column : ℕ) (w rest : List ℕ) → read_cells first n column w (newline ∷ rest) ≡ took (w ++ zeros n) rest
unfolding read_cells
cells_end first n column w rest =
    let y : n - n ≡ 0 = omega arith in
    cells_skip n first n column w (newline ∷ rest) (omega arith) (λ j l v. cell_end first (column + j) v rest) ∙ rw y (expect_next newline (w ++ zeros n) rest)

-- ---- the text of the columns that are left
-- Behind a code stands no digit.
pub text_low : (n column : ℕ) (img : List ℕ) (at : ℕ) (rest : List ℕ) → is_digit (get_or (cells_text false n column img at ++ rest) 0 0) ≡ false
unfolding cells_text is_digit column_text before
text_low zero column img at rest = refl
text_low (suc n) column img at rest = go (get_or img at 0) refl (text_low n (column + 1) img (at + 1) rest)
  where
    go : (v : ℕ) → get_or img at 0 ≡ v → is_digit (get_or (cells_text false n (column + 1) img (at + 1) ++ rest) 0 0) ≡ false
        → is_digit (get_or (cells_text false (suc n) column img at ++ rest) 0 0) ≡ false
    go zero e ih = rw (text_none false n column img at e) ih
    go (suc v) e ih = rw (text_some false n column img at (λ z. omega (arith, e, z)))

-- No earlier column stands there.
pub text_later : (n : ℕ) (first : Bool) (column later : ℕ) (img : List ℕ) (at : ℕ) (w rest : List ℕ) → column < later
    → read_cell first column w (cells_text first n later img at ++ rest) ≡ wrong
unfolding cells_text column_text is_digit
text_later zero first column later img at w rest h = cell_end first column w rest
text_later (suc n) first column later img at w rest h = go (get_or img at 0) refl (text_later n first column (later + 1) img (at + 1) w rest (omega arith))
  where
    go : (v : ℕ) → get_or img at 0 ≡ v → read_cell first column w (cells_text first n (later + 1) img (at + 1) ++ rest) ≡ wrong
        → read_cell first column w (cells_text first (suc n) later img at ++ rest) ≡ wrong
    go zero e ih = rw (text_none first n later img at e) ih
    go (suc v) e ih =
        let tail = field_text Number img at ++ cells_text false n (later + 1) img (at + 1) in
        let t : (column_text first later ++ tail) ++ rest ≡ before first ++ (decimal later ++ (colon ∷ (tail ++ rest))) =
        append_assoc (column_text first later) tail rest ∙ append_assoc (before first) (decimal later ++ (colon ∷ [])) (tail ++ rest)
        ∙ ap (λ (l : List ℕ). before first ++ l) (append_assoc (decimal later) (colon ∷ []) (tail ++ rest)) in
        rw (text_some first n later img at (λ z. omega (arith, e, z)), t)
        (cell_other later column (omega arith) first w (decimal later ++ (colon ∷ (tail ++ rest)))
        (λ z.
        let y = sym (number_back later later (colon ∷ (tail ++ rest)) (omega arith) refl) ∙ z in
        omega (arith, ap (λ (f : Field). f.value) y)))
