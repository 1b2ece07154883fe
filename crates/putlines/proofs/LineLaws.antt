-- Rows, lines and tables: what their texts are made of, and how long the parts are.
use mathlib.Core.Path.{◌≡◌, refl, ap, ◌∙◌}
use mathlib.Core.List.{List, [], ◌∷◌, ◌++◌}
use Prim.Native.Nat.{ℕ, zero, suc, ◌+◌, ◌*◌, ◌-◌, ◌<◌, ◌≤◌}
use native.Mathlib.Numerals.{sub-one}
use native.Mathlib.Omega.{arith}
use lib.ListN.{length, length-append}
use Rattle.pack.specs.Image.{layout_at}
use Rattle.text.specs.declared.Form.{Form}
use Rattle.text.specs.declared.Kind.TheVariants.{Number, Set}
use Rattle.text.specs.declared.Row.{Row}
use Rattle.text.specs.declared.Row.TheVariants.{Numbers, Group}
use Rattle.text.specs.Form.{newline, comma, row_width, sizes, pack_line, tables_of, table_at}
use Rattle.text.specs.Writer.{fields_text, row_text, lines_text, tables_text, text_of}
use Rattle.text.proofs.Tables.{tables_from, tables_on, tables_end}
use Rattle.putfields.proofs.FieldLaws.{sets_size}
use Rattle.putlines.specs.Steps.{table_text}

-- ---- rows
pub group_size : (img : List ℕ) (i : ℕ) {n : ℕ} → length (fields_text Number 1 newline img (i + 4)) ≡ n
    → length (fields_text Set 1 comma img i ++ fields_text Number 1 newline img (i + 4)) ≡ 17 + n
group_size img i e = length-append (fields_text Set 1 comma img i) _ ∙ rw (sets_size 1 comma img i, e)

module _ (row : Row) (img : List ℕ) (i : ℕ) where
  pub group_row : row ≡ Group → row_text row img i ≡ fields_text Set 1 comma img i ++ fields_text Number 1 newline img (i + 4)
  unfolding row_text
  group_row e = rw e

  pub group_length : row ≡ Group → length (row_text row img i) ≡ length (fields_text Set 1 comma img i) + length (fields_text Number 1 newline img (i + 4))
  group_length e = ap length (group_row e) ∙ length-append (fields_text Set 1 comma img i) _

-- ---- lines
module _ (name : List ℕ) (row : Row) (left : ℕ) (img : List ℕ) (from : ℕ) where
  pub lines_on : 0 < left → lines_text name row left img from ≡ (name ++ row_text row img from) ++ lines_text name row (left - 1) img (from + row_width row)
  unfolding lines_text
  lines_on z = go left refl
    where
      go : (n : ℕ) → left ≡ n → lines_text name row n img from ≡ (name ++ row_text row img from) ++ lines_text name row (n - 1) img (from + row_width row)
      go zero e = absurd (omega (arith, z, e))
      go (suc n) e = rw (sub-one (suc n))

  pub lines_length : 0 < left
      → length (lines_text name row left img from) ≡ length (name ++ row_text row img from) + length (lines_text name row (left - 1) img (from + row_width row))
  lines_length z = ap length (lines_on z) ∙ length-append (name ++ row_text row img from) _

  pub lines_none : left ≤ 0 → lines_text name row left img from ≡ []
  unfolding lines_text
  lines_none z = let e : left ≡ 0 = omega arith in rw e

-- ---- tables
module _ (form : Form) (img : List ℕ) (i from : ℕ) where
  pub tables_are : i < 9 → tables_text (tables_from form img i) img from ≡ table_text form img i from ++ tables_text (tables_from form img (i + 1)) img (from + (table_at form img i).lines * row_width (table_at form img i).row)
  unfolding tables_text
  tables_are h = rw (tables_on form img i h)

  pub tables_length : i < 9
      → length (tables_text (tables_from form img i) img from) ≡ length (table_text form img i from) + length (tables_text (tables_from form img (i + 1)) img (from + (table_at form img i).lines * row_width (table_at form img i).row))
  tables_length h = ap length (tables_are h) ∙ length-append (table_text form img i from) _

  pub tables_none : 9 ≤ i → tables_text (tables_from form img i) img from ≡ []
  unfolding tables_text
  tables_none h = rw (tables_end form img i h)

-- ---- the whole
-- The line of the sizes.
abbrev pub sizes_text : List ℕ → List ℕ
sizes_text img = lines_text (115 ∷ 105 ∷ 122 ∷ 101 ∷ 61 ∷ []) (Numbers 8) 1 img 1

module _ (form : Form) (img : List ℕ) where
  pub text_is : text_of form img ≡ pack_line form ++ (sizes_text img ++ tables_text (tables_of form img) img layout_at)
  unfolding text_of sizes
  text_is = refl

  pub text_length : length (text_of form img) ≡ length (pack_line form) + (length (sizes_text img) + length (tables_text (tables_of form img) img layout_at))
  text_length = ap length text_is ∙ length-append (pack_line form) _ ∙ ap (λ (n : ℕ). length (pack_line form) + n) (length-append (sizes_text img) _)
