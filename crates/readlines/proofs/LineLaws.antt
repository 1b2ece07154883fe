-- Lines, and the end of the text, over plain variables.
use mathlib.Core.Path.{◌≡◌, refl, ◌∙◌}
use mathlib.Core.List.{List, [], ◌∷◌, ◌++◌, append_assoc, append-nil}
use Prim.Native.Nat.{ℕ, suc, ◌+◌, ◌*◌, ◌-◌, ◌<◌, ◌≤◌}
use native.Mathlib.Nat.{mul-le-mul_right}
use native.Mathlib.Omega.{arith}
use borrow.Rule.Slice.PartMut.{put_mid}
use lib.ListN.{length, take, drop, length-drop, length-take}
use Rattle.std.proofs.lemmas.Slice.{take-put_mid}
use Rattle.text.specs.declared.Row.{Row}
use Rattle.text.specs.Reader.{then_read, expect, read_row, then_lines, as_line, read_lines, ended}
use Rattle.fields.specs.Steps.{IsWrong, Reads}
use Rattle.readlines.specs.Steps.{ReadsLines, WrongFrom}

-- Where a row stands in its table.
pub row_inside : (i n w : ℕ) → i < n → i * w + w ≤ n * w
row_inside i n w h = let l : suc i ≤ n = omega arith in grind (arith, mul-le-mul_right w l)

pub part_size : (a w : ℕ) (xs : List ℕ) → a + w ≤ length xs → length (take (a + w - a) (drop a xs)) ≡ w
part_size a w xs h = omega (arith, length-take (a + w - a) (drop a xs), length-drop a xs)

-- The words of one row more.
pub table_grows : (i w k : ℕ) (xs ys : List ℕ) → length ys ≡ w → i * w ≤ length xs → take ((i + 1) * w) (put_mid (i * w) k xs ys) ≡ take (i * w) xs ++ ys
table_grows i w k xs ys h l = take-put_mid (i * w) k xs ys ((i + 1) * w) (omega arith) l

-- The lines of a table that are left, from where it stands, give what all of them give.
module _ (name : List ℕ) (row : Row) (n i : ℕ) (bytes left so_far : List ℕ)
    (same : (w : List ℕ) → read_lines name row n w bytes ≡ read_lines name row (n - i) (w ++ so_far) left) (l : length left ≤ length bytes) where
  pub lines_done : (rows : List ℕ) → n ≤ i → so_far ≡ rows → ReadsLines (read_lines name row n) bytes rows left
  unfolding read_lines
  lines_done rows h e = let z : n - i ≡ 0 = omega arith in record { lines = λ w. same w ∙ rw (z, e); within = l }

  module _ (h : i < n) where
    lines_go : (w : List ℕ) → read_lines name row (n - i) w left
        ≡ then_lines (as_line left (then_read (expect name w left) (read_row row))) (read_lines name row (n - (i + 1)))
    unfolding read_lines
    lines_go w = let y : n - i ≡ suc (n - (i + 1)) = omega arith in rw y

    pub lines_wrong : IsWrong (λ w b. then_read (expect name w b) (read_row row)) left → WrongFrom (read_lines name row n) bytes left
    unfolding as_line then_lines
    lines_wrong q = record { lines = λ w. same w ∙ lines_go (w ++ so_far) ∙ rw (q.line (w ++ so_far)); within = l }

    pub lines_on : (words rest rows : List ℕ) → Reads (λ w b. then_read (expect name w b) (read_row row)) left words rest → rows ≡ so_far ++ words → (w : List ℕ)
        → read_lines name row n w bytes ≡ read_lines name row (n - (i + 1)) (w ++ rows) rest
    unfolding as_line then_lines
    lines_on words rest rows q e w = same w ∙ lines_go (w ++ so_far) ∙ rw (q.line (w ++ so_far), e, append_assoc w so_far words)

-- The end of the text.
pub end_here : (bytes : List ℕ) → length bytes ≡ 0 → ReadsLines ended bytes [] []
unfolding ended
end_here [] e = record { lines = λ w. rw (append-nil w); within = omega arith }
end_here (b ∷ bytes) e = absurd (omega arith)

pub end_more : (bytes : List ℕ) → (length bytes ≡ 0 → ⊥) → WrongFrom ended bytes bytes
unfolding ended
end_more [] e = absurd (e refl)
end_more (b ∷ bytes) e = record { lines = λ w. refl; within = omega arith }
