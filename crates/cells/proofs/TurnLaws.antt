-- Words 0 behind the words so far, and the turns of a row of cells, over plain variables.
use mathlib.Core.Path.{◌≡◌, refl, sym, ap, ◌∙◌}
use mathlib.Core.Bool.{Bool, true}
use mathlib.Core.List.{List, [], ◌∷◌, ◌++◌, append_assoc}
use Prim.Native.Nat.{ℕ, zero, suc, ◌+◌, ◌-◌, ◌≤◌}
use native.Mathlib.Omega.{arith}
use borrow.Rule.Slice.PartMut.{put_mid}
use lib.ListN.{length, take}
use lib.Seq.{take_all}
use Rattle.std.specs.Prelude.{replicate}
use Rattle.std.proofs.lemmas.Slice.{take-put_mid}
use Rattle.text.specs.Form.{newline}
use Rattle.text.specs.Reader.{expect, read_cells, zeros}
use Rattle.text.proofs.Cells.{cells_end}
use Rattle.text.proofs.Lines.{expect_told}
use Rattle.fields.specs.Steps.{Reads}

-- ---- words 0
zeros_are : (n : ℕ) → replicate n 0 ≡ zeros n
unfolding zeros
zeros_are zero = refl
zeros_are (suc n) = ap (λ (l : List ℕ). 0 ∷ l) (zeros_are n)

zeros_length : (n : ℕ) → length (zeros n) ≡ n
unfolding zeros
zeros_length zero = refl
zeros_length (suc n) = let z = zeros_length n in omega arith

pub filled : (img ys : List ℕ) (words k n : ℕ) → words + n ≤ length img → ys ≡ replicate n 0
    → take (words + n) (put_mid words k img ys) ≡ take words img ++ zeros n
filled img ys words k n h e =
    let z : ys ≡ zeros n = e ∙ zeros_are n in
    rw z (take-put_mid words k img (zeros n) (words + n) (omega (arith, zeros_length n)) (omega arith))

-- ---- a row of cells
-- The columns that are left, from where a row stands, give what all of them give: there the line ends.
pub cells_done : (bytes left row : List ℕ) (n next : ℕ) (first : Bool)
    → ((w : List ℕ) → read_cells true n 0 w bytes ≡ read_cells first (n - next) next (w ++ take next row) left)
    → (row' rest : List ℕ) → next ≤ n → length row' ≡ n → length left ≤ length bytes → Reads (expect (newline ∷ [])) left [] rest
    → take (next + (n - next)) row' ≡ take next row ++ zeros (n - next) → Reads (read_cells true n 0) bytes row' rest
cells_done bytes left row n next first same row' rest l k i q t =
    let e : left ≡ newline ∷ rest = sym (expect_told (newline ∷ []) [] left [] rest (q.line [])).1 in
    let x : take (next + (n - next)) row' ≡ row' = take_all (next + (n - next)) row' (omega arith) in
    record {
      line = λ w. same w ∙ rw (e, ← x, t, ← append_assoc w (take next row) (zeros (n - next))) (cells_end first (n - next) next (w ++ take next row) rest);
      within = omega (arith, q.within, i);
    }
