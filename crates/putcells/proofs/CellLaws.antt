-- The cells of a row in form 2: the bytes of one, and the turns of the loop over the columns.
use mathlib.Core.Path.{◌≡◌, refl, ap, ◌∙◌}
use mathlib.Core.Bool.{Bool, true, false}
use mathlib.Core.List.{List, [], ◌∷◌, ◌++◌, append_assoc}
use Prim.Native.Nat.{ℕ, zero, suc, ◌+◌, ◌-◌, ◌<◌, ◌≤◌}
use native.Mathlib.Nat.{add-zero, sub-zero}
use native.Mathlib.Omega.{arith}
use lib.ListN.{length, get_or, length-append}
use Rattle.text.specs.Decimal.{decimal}
use Rattle.text.specs.Form.{newline, comma, colon, before, column_text}
use Rattle.text.specs.Writer.{cells_text}
use Rattle.text.proofs.Cells.{text_none, text_some}
use Rattle.putfields.proofs.FieldLaws.{number_field}
use Rattle.putcells.specs.Steps.{cell_text, first_after}

-- ---- one column
pub comma_none : (first : Bool) → first ≡ true → before first ≡ []
unfolding before
comma_none first e = rw e

pub comma_some : (first : Bool) → first ≡ false → before first ≡ comma ∷ []
unfolding before
comma_some first e = rw e

pub comma_length : (first : Bool) → first ≡ false → length (before first) ≡ 1
comma_length first e = rw (comma_some first e)

pub first_same : (first : Bool) (code : ℕ) → code ≡ 0 → first ≡ first_after first code
unfolding first_after
first_same first code e = rw e

pub first_now : (first : Bool) (code : ℕ) → (code ≡ 0 → ⊥) → false ≡ first_after first code
unfolding first_after
first_now first zero z = absurd (z refl)
first_now first (suc code) z = refl

module _ (first : Bool) (column code : ℕ) where
  pub cell_none : code ≡ 0 → cell_text first column code ≡ []
  unfolding cell_text
  cell_none e = rw e

  pub cell_some : (code ≡ 0 → ⊥) → cell_text first column code ≡ before first ++ (decimal column ++ ((colon ∷ []) ++ decimal code))
  unfolding cell_text column_text
  cell_some z = go code refl
    where
      go : (k : ℕ) → code ≡ k → cell_text first column k ≡ before first ++ (decimal column ++ ((colon ∷ []) ++ decimal k))
      go zero e = absurd (z e)
      go (suc k) e = simp append_assoc

  pub cell_length : (code ≡ 0 → ⊥) → length (cell_text first column code) ≡ length (before first) + length (decimal column) + 1 + length (decimal code)
  cell_length z =
      let a = ap length (cell_some z) ∙ length-append (before first) (decimal column ++ ((colon ∷ []) ++ decimal code)) in
      omega (arith, a, length-append (decimal column) ((colon ∷ []) ++ decimal code), length-append (colon ∷ []) (decimal code))

-- ---- the columns that are left
abbrev pub cells_left : Bool → ℕ → ℕ → List ℕ → ℕ → List ℕ
cells_left first n column img i = cells_text first (n - column) column img (i + column)

pub cells_begin : (n : ℕ) (img : List ℕ) (i : ℕ) → cells_text true n 0 img i ≡ cells_left true n 0 img i
cells_begin n img i = rw (sub-zero n, add-zero i)

-- The column that stands next, and those behind it.
pub cells_are : (first : Bool) (n column : ℕ) (img : List ℕ) (at : ℕ)
    → cells_text first (suc n) column img at ≡ cell_text first column (get_or img at 0) ++ cells_text (first_after first (get_or img at 0)) n (column + 1) img (at + 1)
unfolding cell_text first_after
cells_are first n column img at = go (get_or img at 0) refl
  where
    go : (w : ℕ) → get_or img at 0 ≡ w → cells_text first (suc n) column img at ≡ cell_text first column w ++ cells_text (first_after first w) n (column + 1) img (at + 1)
    go zero e = text_none first n column img at e
    go (suc w) e = text_some first n column img at (λ z. omega (arith, e, z)) ∙ rw (number_field img at, e, append_assoc (column_text first column) (decimal (suc w)))

module _ (first : Bool) (n column : ℕ) (img : List ℕ) (i : ℕ) where
  pub cells_on : {w : ℕ} → column < n → w ≡ get_or img (i + column) 0
      → cells_left first n column img i ≡ cell_text first column w ++ cells_left (first_after first w) n (column + 1) img i
  cells_on h e =
      let z : n - column ≡ suc (n - (column + 1)) = omega arith in
      let y : i + (column + 1) ≡ i + column + 1 = omega arith in
      ap (λ (k : ℕ). cells_text first k column img (i + column)) z ∙ cells_are first _ column img (i + column) ∙ rw (e, y)

  pub cells_last : n ≤ column → cells_left first n column img i ≡ newline ∷ []
  unfolding cells_text
  cells_last h = let z : n - column ≡ 0 = omega arith in ap (λ (k : ℕ). cells_text first k column img (i + column)) z

  pub cells_length : {w : ℕ} → column < n → w ≡ get_or img (i + column) 0
      → length (cells_left first n column img i) ≡ length (cell_text first column w) + length (cells_left (first_after first w) n (column + 1) img i)
  cells_length {w} h e = ap length (cells_on h e) ∙ length-append (cell_text first column w) _
