-- No text of an image is so long that a count of its bytes would not fit.
use mathlib.Core.Path.{◌≡◌, refl, ap}
use mathlib.Core.Bool.{Bool, true, false}
use mathlib.Core.List.{List, [], ◌∷◌, ◌++◌}
use Prim.Native.Nat.{ℕ, zero, suc, ◌+◌, ◌*◌, ◌/◌, ◌^◌, ◌<◌, ◌≤◌}
use native.Mathlib.Nat.{suc-mul}
use native.Mathlib.Omega.{arith}
use lib.ListN.{length, get_or, length-append}
use Rattle.pack.specs.Image.{layout_at, largest_image}
use Rattle.pack.specs.Laid.{Sized}
use Rattle.text.specs.declared.Form.{Form}
use Rattle.text.specs.declared.Form.TheVariants.{One, Two}
use Rattle.text.specs.declared.Kind.TheVariants.{Number}
use Rattle.text.specs.declared.Row.{Row}
use Rattle.text.specs.declared.Row.TheVariants.{Numbers, Cells, Sets, Production, Group}
use Rattle.text.specs.Decimal.{decimal}
use Rattle.text.specs.Fields.{field_text}
use Rattle.text.specs.Form.{newline, after, before, row_width, sizes, pack_line, tables_of, table_at}
use Rattle.text.specs.Writer.{fields_text, cells_text, row_text, lines_text, tables_text, text_of}
use Rattle.text.proofs.Tables.{tables_from, row_fits}
use Rattle.putfields.specs.Steps.{lead}
use Rattle.putfields.proofs.FieldLaws.{decimal_length, number_field, sets_size}
use Rattle.putcells.specs.Steps.{cell_text, first_after}
use Rattle.putcells.proofs.CellLaws.{cell_length, cells_are}
use Rattle.putlines.specs.Steps.{table_text}
use Rattle.putlines.proofs.LineLaws.{group_size, text_length, tables_length, tables_none}

pack_seven : (form : Form) → length (pack_line form) ≡ 7
unfolding pack_line
pack_seven One = refl
pack_seven Two = refl

-- ---- numbers and fields
lead_most : (q : ℕ) → length (lead q) ≤ 1
unfolding lead
lead_most zero = omega arith
lead_most (suc q) = omega arith

decimal_most : (n : ℕ) → n < 65536 → length (decimal n) ≤ 5
decimal_most n h = omega (arith, decimal_length n h, lead_most (n / 10 / 10 / 10 / 10), lead_most (n / 10 / 10 / 10), lead_most (n / 10 / 10), lead_most (n / 10))

module _ (img : List ℕ) (words : (i : ℕ) → get_or img i 0 < 65536) where
  numbers_most : (n end at : ℕ) → length (fields_text Number n end img at) ≤ n * 6
  unfolding fields_text
  numbers_most zero end at = omega arith
  numbers_most (suc n) end at =
      omega (
        arith,
        length-append (field_text Number img at) (after n end ∷ fields_text Number n end img (at + 1)),
        ap length (number_field img at),
        decimal_most (get_or img at 0) (words at),
        numbers_most n end (at + 1),
        suc-mul n 6,
      )

  before_most : (first : Bool) → length (before first) ≤ 1
  unfolding before
  before_most true = omega arith
  before_most false = omega arith

  cell_most : (first : Bool) (column code : ℕ) → column < 65536 → code < 65536 → length (cell_text first column code) ≤ 12
  unfolding cell_text
  cell_most first column zero h l = omega arith
  cell_most first column (suc code) h l =
      omega (arith, cell_length first column (suc code) (λ z. omega (arith, z)), before_most first, decimal_most column h, decimal_most (suc code) l)

  cells_most : (first : Bool) (n column at : ℕ) → column + n ≤ 65536 → length (cells_text first n column img at) ≤ n * 12 + 1
  unfolding cells_text
  cells_most first zero column at h = omega arith
  cells_most first (suc n) column at h =
      let w = get_or img at 0 in
      omega (
        arith,
        ap length (cells_are first n column img at),
        length-append (cell_text first column w) (cells_text (first_after first w) n (column + 1) img (at + 1)),
        cell_most first column w (omega (arith, h)) (words at),
        cells_most (first_after first w) n (column + 1) (at + 1) (omega (arith, h)),
        suc-mul n 12,
      )

  -- ---- rows and lines
  row_most : (row : Row) (at : ℕ) → row_width row ≤ largest_image → length (row_text row img at) ≤ 1000000
  unfolding row_text row_width
  row_most (Numbers n) at h = omega (arith, h, numbers_most n newline at)
  row_most (Cells n) at h = omega (arith, h, cells_most true n 0 at (omega (arith, h)))
  row_most (Sets n) at h = omega (arith, h, sets_size n newline img at)
  row_most Production at h = omega (arith, numbers_most (2 + get_or img (at + 1) 0) newline at, words (at + 1))
  row_most Group at h = omega (arith, group_size img at refl, numbers_most 1 newline (at + 4))

  pub lines_most : (name : List ℕ) (row : Row) (n at : ℕ) → length name ≤ 7 → row_width row ≤ largest_image → length (lines_text name row n img at) ≤ n * (1000000 + 7)
  unfolding lines_text
  lines_most name row zero at l h = omega arith
  lines_most name row (suc n) at l h =
      omega (
        arith,
        length-append (name ++ row_text row img at) (lines_text name row n img (at + row_width row)),
        length-append name (row_text row img at),
        l,
        row_most row at h,
        lines_most name row n (at + row_width row) l h,
        suc-mul n (1000000 + 7),
      )

  -- ---- tables and the whole
  module _ (form : Form) (s : Sized img) where
    -- No table has more lines than there are parse states.
    pub lines_fit : (i : ℕ) → (table_at form img i).lines ≤ 1000
    unfolding tables_of sizes
    lines_fit zero = omega arith
    lines_fit (suc zero) = omega (arith, s.t_most)
    lines_fit (suc (suc zero)) = omega (arith, s.p_most)
    lines_fit (suc (suc (suc zero))) = omega (arith, s.s_most)
    lines_fit (suc (suc (suc (suc zero)))) = omega (arith, s.s_most)
    lines_fit (suc (suc (suc (suc (suc zero))))) = omega (arith, s.r_most)
    lines_fit (suc (suc (suc (suc (suc (suc zero)))))) = omega (arith, s.q_most)
    lines_fit (suc (suc (suc (suc (suc (suc (suc zero))))))) = omega (arith, s.q_most)
    lines_fit (suc (suc (suc (suc (suc (suc (suc (suc zero)))))))) = omega (arith, s.g_most)
    lines_fit (suc (suc (suc (suc (suc (suc (suc (suc (suc i))))))))) = omega arith

    names_short : (i : ℕ) → length (table_at form img i).name ≤ 7
    unfolding tables_of sizes
    names_short zero = omega arith
    names_short (suc zero) = omega arith
    names_short (suc (suc zero)) = omega arith
    names_short (suc (suc (suc zero))) = omega arith
    names_short (suc (suc (suc (suc zero)))) = omega arith
    names_short (suc (suc (suc (suc (suc zero))))) = omega arith
    names_short (suc (suc (suc (suc (suc (suc zero)))))) = omega arith
    names_short (suc (suc (suc (suc (suc (suc (suc zero))))))) = omega arith
    names_short (suc (suc (suc (suc (suc (suc (suc (suc zero)))))))) = omega arith
    names_short (suc (suc (suc (suc (suc (suc (suc (suc (suc i))))))))) = omega arith

    table_most : (i at : ℕ) → length (table_text form img i at) ≤ 1000 * (1000000 + 7)
    table_most i at =
        omega (arith, lines_fit i, lines_most (table_at form img i).name (table_at form img i).row (table_at form img i).lines at (names_short i) (omega (arith, row_fits form img s i)))

    rest_most : (k i at : ℕ) → i + k ≡ 9 → length (tables_text (tables_from form img i) img at) ≤ k * (1000 * (1000000 + 7))
    rest_most zero i at e = omega (arith, ap length (tables_none form img i at (omega (arith, e))))
    rest_most (suc k) i at e =
        omega (arith, tables_length form img i at (omega (arith, e)), table_most i at, rest_most k (i + 1) (at + (table_at form img i).lines * row_width (table_at form img i).row) (omega (arith, e)), suc-mul k (1000 * (1000000 + 7)))

    pub tables_most : length (tables_text (tables_of form img) img layout_at) ≤ 9000 * (1000000 + 7)
    tables_most = rest_most 9 0 layout_at refl

    pub text_most : length (text_of form img) ≤ 2 ^ 63
    unfolding row_width
    text_most =
        omega (arith, text_length form img, pack_seven form, lines_most (115 ∷ 105 ∷ 122 ∷ 101 ∷ 61 ∷ []) (Numbers 8) 1 1 (omega arith) (omega arith), tables_most)
