-- Round trip from the image: the text of an image of good shape is read back as that image, field by field, row by row, line by
-- line and table by table.
use mathlib.Core.Path.{◌≡◌, refl, sym, ap, ◌∙◌}
use mathlib.Core.Bool.{Bool, true, false, ◌&&◌}
use mathlib.Core.List.{List, [], ◌∷◌, ◌++◌, append_assoc, append-nil}
use Prim.Native.Nat.{ℕ, zero, suc, ◌+◌, ◌*◌, ◌-◌, ◌<◌, ◌≤◌}
use native.Mathlib.Nat.{suc-mul, add-zero}
use native.Mathlib.Numerals.{add-one}
use native.Mathlib.Omega.{arith}
use lib.ListN.{length, get_or, take}
use lib.Seq.{take-suc, drop_at}
use borrow.Author.Tests.{lt-leb}
use Rattle.text.specs.declared.Kind.{Kind}
use Rattle.text.specs.declared.Kind.TheVariants.{Number, Set}
use Rattle.text.specs.declared.Row.{Row}
use Rattle.text.specs.declared.Row.TheVariants.{Numbers, Cells, Sets, Production, Group}
use Rattle.text.specs.Decimal.{is_digit, decimal}
use Rattle.text.specs.Fields.{greatest_word, read_field, words_of, width_of, hex_word, field_text}
use Rattle.text.specs.Form.{Table, newline, comma, after, column_text, row_width, table_words}
use Rattle.text.specs.Reader.{then_read, field_then, read_fields, read_code, read_cells, zeros, read_symbols, read_row, then_lines, as_line, read_lines, read_tables}
use Rattle.text.specs.Reader.Line.{took}
use Rattle.text.specs.Reader.Lines.{all}
use Rattle.text.specs.Writer.{fields_text, cells_text, row_text, lines_text, tables_text}
use Rattle.text.proofs.Decimal.{field, number_back, decimal_some}
use Rattle.text.proofs.Hex.{set_back, value_words, value_of}
use Rattle.text.proofs.Lines.{Small, expect_next, expect_name, field_then_lem, symbols_go}
use Rattle.text.proofs.Cells.{cells_none, cells_some, cell_code, code_some, text_none, text_some, text_low, text_later}

-- The production at place i has at most 14 symbols, and its unused ones are 0.
pub record ProdRight (img : List ℕ) (i : ℕ) : Type 0 where
  pub most : get_or img (i + 1) 0 ≤ 14
  pub unused : (j : ℕ) → get_or img (i + 1) 0 ≤ j → j < 14 → get_or img (i + 2 + j) 0 ≡ 0

-- So are those of each production among the tables from place i on.
pub data Right (img : List ℕ) : List Table → ℕ → Type 0 where
  no_more : {i : ℕ} → Right img [] i
  more : {t : Table} {tables : List Table} {i : ℕ} → ((k : ℕ) → k < t.lines → t.row ≡ Production → ProdRight img (i + k * row_width t.row))
      → Right img tables (i + t.lines * row_width t.row) → Right img (t ∷ tables) i

-- ---- a field
module _ (img : List ℕ) (small : Small img) where
  -- A byte below the digits ends a number.
  low : (c : ℕ) → c < 48 → is_digit c ≡ false
  unfolding is_digit
  low c h = simp (is_digit, ◌&&◌, lt-leb 48 c h)

  number_then : (n c : ℕ) (w rest : List ℕ) → n < 65536 → c < 48 → field_then Number c w (decimal n ++ (c ∷ rest)) ≡ took (w ++ (n ∷ [])) rest
  unfolding read_field words_of
  number_then n c w rest h e =
      field_then_lem Number c w (decimal n ++ (c ∷ rest)) (field n (length (decimal n))) (sym (number_back greatest_word n (c ∷ rest) (omega arith) (low c e))) (decimal_some n)
      ∙ rw (drop_at (decimal n) (c ∷ rest) (length (decimal n)) refl) (expect_next c _ rest)

  pub take_one : (i : ℕ) → i < length img → take i img ++ (get_or img i 0 ∷ []) ≡ take (i + 1) img
  take_one i h = rw (add-one i) (sym (take-suc img i 0 h))

  take_four : (i : ℕ) → i + 4 ≤ length img → take i img ++ (get_or img i 0 ∷ get_or img (i + 1) 0 ∷ get_or img (i + 2) 0 ∷ get_or img (i + 3) 0 ∷ []) ≡ take (i + 4) img
  take_four i h =
      let a : i + 1 + 1 ≡ i + 2 = omega arith in
      let b : i + 2 + 1 ≡ i + 3 = omega arith in
      let c : i + 3 + 1 ≡ i + 4 = omega arith in
      sym (append_assoc (take i img) (get_or img i 0 ∷ []) _)
      ∙ rw (take_one i (omega arith)) (sym (append_assoc (take (i + 1) img) (get_or img (i + 1) 0 ∷ []) _)
      ∙ rw (take_one (i + 1) (omega arith), a) (sym (append_assoc (take (i + 2) img) (get_or img (i + 2) 0 ∷ []) _)
      ∙ rw (take_one (i + 2) (omega arith), b) (take_one (i + 3) (omega arith) ∙ rw c)))

  field_back : (kind : Kind) (i c : ℕ) (rest : List ℕ) → i + width_of kind ≤ length img → c < 48
      → field_then kind c (take i img) (field_text kind img i ++ (c ∷ rest)) ≡ took (take (i + width_of kind) img) rest
  unfolding field_text read_field hex_word
  field_back Number i c rest h e = number_then (get_or img i 0) c (take i img) rest (small i) e ∙ rw (take_one i (omega arith))
  field_back Set i c rest h e =
      let p = get_or img i 0 in
      let q = get_or img (i + 1) 0 in
      let r = get_or img (i + 2) 0 in
      let s = get_or img (i + 3) 0 in
      field_then_lem Set c (take i img) (hex_word s (hex_word r (hex_word q (hex_word p (c ∷ rest))))) (field (value_of p q r s) 16)
      (sym (set_back p q r s (c ∷ rest) (small i) (small (i + 1)) (small (i + 2)) (small (i + 3)))) (λ z. omega arith)
      ∙ rw (value_words p q r s (small i) (small (i + 1)) (small (i + 2)) (small (i + 3)), take_four i h) (expect_next c _ rest)

  -- ---- fields
  after_low : (n end : ℕ) → end < 48 → after n end < 48
  unfolding after
  after_low zero end h = h
  after_low (suc n) end h = omega arith

  fields_back : (kind : Kind) (n end i : ℕ) (rest : List ℕ) → i + n * width_of kind ≤ length img → end < 48
      → read_fields kind n end (take i img) (fields_text kind n end img i ++ rest) ≡ took (take (i + n * width_of kind) img) rest
  unfolding read_fields fields_text then_read
  fields_back kind zero end i rest h e = let z : i + 0 * width_of kind ≡ i = omega arith in rw z
  fields_back kind (suc n) end i rest h e =
      let z : i + width_of kind + n * width_of kind ≡ i + suc n * width_of kind = omega (arith, suc-mul n (width_of kind)) in
      rw (
        append_assoc (field_text kind img i) (after n end ∷ fields_text kind n end img (i + width_of kind)) rest,
        field_back kind i (after n end) (fields_text kind n end img (i + width_of kind) ++ rest) (omega (arith, z)) (after_low n end e),
      )
      (fields_back kind n end (i + width_of kind) rest (omega (arith, z)) e ∙ rw z)

  -- ---- cells
  code_back : (i : ℕ) (rest : List ℕ) → i < length img → is_digit (get_or rest 0 0) ≡ false → (get_or img i 0 ≡ 0 → ⊥)
      → read_code (take i img) (field_text Number img i ++ rest) ≡ took (take (i + 1) img) rest
  unfolding field_text
  code_back i rest h l z =
      let n = get_or img i 0 in
      code_some (take i img) (decimal n ++ rest) (field n (length (decimal n))) (sym (number_back greatest_word n rest (omega (arith, small i)) l)) z
      ∙ rw (drop_at (decimal n) rest (length (decimal n)) refl, take_one i h)

  cells_back : (n : ℕ) (first : Bool) (column i : ℕ) (rest : List ℕ) → i + n ≤ length img
      → read_cells first n column (take i img) (cells_text first n column img i ++ rest) ≡ took (take (i + n) img) rest
  unfolding read_cells cells_text
  cells_back zero first column i rest h = expect_next newline (take i img) rest ∙ rw (add-zero i)
  cells_back (suc n) first column i rest h = go (get_or img i 0) refl (λ f. cells_back n f (column + 1) (i + 1) rest (omega arith))
    where
      y : i + 1 + n ≡ i + suc n
      y = omega arith

      go : (v : ℕ) → get_or img i 0 ≡ v → ((f : Bool) → read_cells f n (column + 1) (take (i + 1) img) (cells_text f n (column + 1) img (i + 1) ++ rest) ≡ took (take (i + 1 + n) img) rest)
          → read_cells first (suc n) column (take i img) (cells_text first (suc n) column img i ++ rest) ≡ took (take (i + suc n) img) rest
      go zero e ih =
          let x : take i img ++ (0 ∷ []) ≡ take (i + 1) img = ap (λ (v : ℕ). take i img ++ (v ∷ [])) (sym e) ∙ take_one i (omega arith) in
          rw (text_none first n column img i e)
          (cells_none first n column (take i img) _ (text_later n first column (column + 1) img (i + 1) (take i img) rest (omega arith)) ∙ rw x (ih first ∙ rw y))
      go (suc k) e ih =
          let z : get_or img i 0 ≡ 0 → ⊥ = λ p. omega (arith, e, p) in
          let f = field_text Number img i in
          let tail = cells_text false n (column + 1) img (i + 1) in
          rw (text_some first n column img i z, append_assoc (column_text first column) (f ++ tail) rest, append_assoc f tail rest)
          (cells_some first n column (take i img) _ (take (i + 1) img) (tail ++ rest)
          (cell_code first column (take i img) (f ++ (tail ++ rest)) ∙ code_back i (tail ++ rest) (omega arith) (text_low n (column + 1) img (i + 1) rest) z)
          ∙ ih false ∙ rw y)

  -- ---- rows
  pads : (k s : ℕ) → s + k ≤ length img → ((j : ℕ) → j < k → get_or img (s + j) 0 ≡ 0) → take s img ++ zeros k ≡ take (s + k) img
  unfolding zeros
  pads zero s h z = rw (add-zero s) (append-nil (take s img))
  pads (suc k) s h z =
      let y : s + 1 + k ≡ s + suc k = omega arith in
      let x : get_or img s 0 ≡ 0 = rw (add-zero s) at (z 0 (omega arith)) in
      let w : take s img ++ (0 ∷ []) ≡ take (s + 1) img = ap (λ (v : ℕ). take s img ++ (v ∷ [])) (sym x) ∙ take_one s (omega arith) in
      sym (append_assoc (take s img) (0 ∷ []) (zeros k)) ∙ rw w (pads k (s + 1) (omega arith) (λ j l. let v : s + 1 + j ≡ s + suc j = omega arith in rw v (z (suc j) (omega arith))) ∙ rw y)

  symbols_back : (i : ℕ) (rest : List ℕ) → i + 15 ≤ length img → get_or img i 0 ≤ 14 → ((j : ℕ) → get_or img i 0 ≤ j → j < 14 → get_or img (i + 1 + j) 0 ≡ 0)
      → read_symbols (take i img) (decimal (get_or img i 0) ++ (after (get_or img i 0) newline ∷ (fields_text Number (get_or img i 0) newline img (i + 1) ++ rest))) ≡ took (take (i + 15) img) rest
  unfolding then_read
  symbols_back i rest h l z =
      let n = get_or img i 0 in
      let c = after n newline in
      let tail = fields_text Number n newline img (i + 1) ++ rest in
      let x : i + 1 + n * 1 ≡ i + 1 + n = omega arith in
      let y : i + 1 + n + (14 - n) ≡ i + 15 = omega arith in
      symbols_go (take i img) (decimal n ++ (c ∷ tail)) (field n (length (decimal n))) (sym (number_back greatest_word n (c ∷ tail) (omega (arith, small i)) (low c (after_low n newline (omega arith)))))
      (decimal_some n) l
      ∙ rw (
        drop_at (decimal n) (c ∷ tail) (length (decimal n)) refl,
        expect_next c (take i img ++ (n ∷ [])) tail,
        take_one i (omega arith),
        fields_back Number n newline (i + 1) rest (omega arith) (omega arith),
        x,
        pads (14 - n) (i + 1 + n) (omega arith) (λ j k. let v : i + 1 + n + j ≡ i + 1 + (n + j) = omega arith in rw v (z (n + j) (omega arith) (omega arith))),
        y,
      )

  production_text : (n i : ℕ) (rest : List ℕ) → fields_text Number (suc (suc n)) newline img i ++ rest
      ≡ field_text Number img i ++ (comma ∷ (field_text Number img (i + 1) ++ (after n newline ∷ (fields_text Number n newline img (i + 1 + 1) ++ rest))))
  unfolding fields_text after
  production_text n i rest =
      append_assoc (field_text Number img i) (comma ∷ (field_text Number img (i + 1) ++ (after n newline ∷ fields_text Number n newline img (i + 1 + 1)))) rest
      ∙ ap (λ (l : List ℕ). field_text Number img i ++ (comma ∷ l)) (append_assoc (field_text Number img (i + 1)) (after n newline ∷ fields_text Number n newline img (i + 1 + 1)) rest)

  group_text : (i : ℕ) (rest : List ℕ) → (fields_text Set 1 comma img i ++ fields_text Number 1 newline img (i + 4)) ++ rest
      ≡ field_text Set img i ++ (comma ∷ (field_text Number img (i + 4) ++ (newline ∷ rest)))
  unfolding fields_text after
  group_text i rest =
      append_assoc (field_text Set img i ++ (comma ∷ [])) (field_text Number img (i + 4) ++ (newline ∷ [])) rest
      ∙ append_assoc (field_text Set img i) (comma ∷ []) _
      ∙ ap (λ (l : List ℕ). field_text Set img i ++ (comma ∷ l)) (append_assoc (field_text Number img (i + 4)) (newline ∷ []) rest)

  pub row_back : (row : Row) (i : ℕ) (rest : List ℕ) → i + row_width row ≤ length img → (row ≡ Production → ProdRight img i)
      → read_row row (take i img) (row_text row img i ++ rest) ≡ took (take (i + row_width row) img) rest
  unfolding read_row row_text row_width then_read field_text
  row_back (Numbers n) i rest h p = let z : i + n * 1 ≡ i + n = omega arith in fields_back Number n newline i rest (omega arith) (omega arith) ∙ rw z
  row_back (Cells n) i rest h p = cells_back n true 0 i rest h
  row_back (Sets n) i rest h p = fields_back Set n newline i rest h (omega arith)
  row_back Production i rest h p =
      let n = get_or img (i + 1) 0 in
      let q = p refl in
      let z : 2 + n ≡ suc (suc n) = omega arith in
      let y : i + 1 + 15 ≡ i + 16 = omega arith in
      let tail = decimal n ++ (after n newline ∷ (fields_text Number n newline img (i + 1 + 1) ++ rest)) in
      rw (z, production_text n i rest, field_back Number i comma tail (omega arith) (omega arith))
      (symbols_back (i + 1) rest (omega arith) q.most (λ j a b. let v : i + 1 + 1 + j ≡ i + 2 + j = omega arith in rw v (q.unused j a b)) ∙ rw y)
  row_back Group i rest h p =
      let y : i + 4 + 1 ≡ i + 5 = omega arith in
      let tail = field_text Number img (i + 4) ++ (newline ∷ rest) in
      rw (group_text i rest, field_back Set i comma tail (omega arith) (omega arith)) (field_back Number (i + 4) newline rest (omega arith) (omega arith) ∙ rw y)

  -- ---- lines
  lines_back : (name : List ℕ) (row : Row) (n i : ℕ) (rest : List ℕ) → i + n * row_width row ≤ length img → ((k : ℕ) → k < n → row ≡ Production → ProdRight img (i + k * row_width row))
      → read_lines name row n (take i img) (lines_text name row n img i ++ rest) ≡ all (take (i + n * row_width row) img) rest
  unfolding read_lines lines_text then_lines as_line then_read
  lines_back name row zero i rest h p = let z : i + 0 * row_width row ≡ i = omega arith in rw z
  lines_back name row (suc n) i rest h p =
      let w = row_width row in
      let z : i + w + n * w ≡ i + suc n * w = omega (arith, suc-mul n w) in
      let tail = lines_text name row n img (i + w) ++ rest in
      let x : i + 0 * w ≡ i = omega arith in
      rw (
        append_assoc (name ++ row_text row img i) (lines_text name row n img (i + w)) rest,
        append_assoc name (row_text row img i) tail,
        expect_name name (take i img) (row_text row img i ++ tail),
        row_back row i tail (omega (arith, z)) (λ e. rw x at (p 0 (omega arith) e)),
      )
      (lines_back name row n (i + w) rest (omega (arith, z)) (λ k l e. let y : i + w + k * w ≡ i + suc k * w = omega (arith, suc-mul k w) in rw y (p (suc k) (omega arith) e)) ∙ rw z)

  -- ---- tables
  pub tables_back : (tables : List Table) (i : ℕ) (rest : List ℕ) → i + table_words tables ≤ length img → Right img tables i
      → read_tables tables (take i img) (tables_text tables img i ++ rest) ≡ all (take (i + table_words tables) img) rest
  unfolding read_tables tables_text then_lines table_words
  tables_back [] i rest h r = rw (add-zero i)
  tables_back (t ∷ tables) i rest h (more p r) =
      let w = t.lines * row_width t.row in
      let z : i + w + table_words tables ≡ i + (w + table_words tables) = omega arith in
      rw (
        append_assoc (lines_text t.name t.row t.lines img i) (tables_text tables img (i + w)) rest,
        lines_back t.name t.row t.lines i (tables_text tables img (i + w) ++ rest) (omega arith) p,
      )
      (tables_back tables (i + w) rest (omega arith) r ∙ rw z)
