-- The tables of an image: they stand in its first nine words, and have as many words as the image needs.
use mathlib.Core.Path.{◌≡◌, refl}
use mathlib.Core.List.{List, [], ◌∷◌}
use Prim.Native.Nat.{ℕ, zero, suc, ◌+◌, ◌*◌, ◌<◌, ◌≤◌}
use native.Mathlib.Numerals.{add-one}
use native.Mathlib.Omega.{arith}
use lib.ListN.{length, take, drop, drop_of_length-le}
use lib.Seq.{drop-cons, get_or-take}
use Rattle.pack.specs.Image.{layout_at, needed, largest_image}
use Rattle.pack.specs.Laid.{Sized}
use Rattle.shape.proofs.Good.{largest_image_lem}
use Rattle.text.specs.declared.Form.{Form}
use Rattle.text.specs.declared.Form.TheVariants.{One, Two}
use Rattle.text.specs.Form.{Table, cells_in, sizes, tables_of, table_at, row_width, table_words}

-- Cells have a word for each column in either form.
pub cells_width : (form : Form) (n : ℕ) → row_width (cells_in form n) ≡ n
unfolding cells_in row_width
cells_width One n = refl
cells_width Two n = refl

pub tables_needed : (form : Form) (img : List ℕ) → layout_at + table_words (tables_of form img) ≡ needed img
unfolding tables_of table_words row_width cells_in
tables_needed One img = omega arith
tables_needed Two img = omega arith

pub tables_fit : (form : Form) (img : List ℕ) → Sized img → layout_at + table_words (tables_of form img) ≤ largest_image
tables_fit form img s = rw (tables_needed form img) (largest_image_lem img s)

pub tables_take : (form : Form) (img : List ℕ) (n : ℕ) → 8 < n → tables_of form (take n img) ≡ tables_of form img
unfolding tables_of
tables_take form img n h =
    simp (get_or-take n img 1 0 (omega arith), get_or-take n img 2 0 (omega arith), get_or-take n img 3 0 (omega arith), get_or-take n img 4 0 (omega arith), get_or-take n img 5 0 (omega arith), get_or-take n img 6 0 (omega arith), get_or-take n img 7 0 (omega arith), get_or-take n img 8 0 (omega arith))

-- ---- the walk over the list: from place i on
abbrev pub tables_from : Form → List ℕ → ℕ → List Table
tables_from form img i = drop i (tables_of form img)

nine : (form : Form) (img : List ℕ) → length (tables_of form img) ≡ 9
unfolding tables_of
nine form img = refl

-- The place that is none of the others.
pub last_place : (i : ℕ) → i < 9
    → ((((((((Unit {0} × (i ≡ 0 → ⊥)) × (i ≡ 1 → ⊥)) × (i ≡ 2 → ⊥)) × (i ≡ 3 → ⊥)) × (i ≡ 4 → ⊥)) × (i ≡ 5 → ⊥)) × (i ≡ 6 → ⊥)) × (i ≡ 7 → ⊥)) → i ≡ 8
last_place i h n =
    let low : 4 ≤ i = omega (arith, n.0.0.0.0.0.0.0.1, n.0.0.0.0.0.0.1, n.0.0.0.0.0.1, n.0.0.0.0.1) in
    omega (arith, low, n.0.0.0.1, n.0.0.1, n.0.1, n.1)

module _ (form : Form) (img : List ℕ) (i : ℕ) where
  pub tables_on : i < 9 → tables_from form img i ≡ table_at form img i ∷ tables_from form img (i + 1)
  tables_on h = rw (add-one i) (drop-cons (tables_of form img) i sizes (omega (arith, nine form img)))

  pub tables_end : 9 ≤ i → tables_from form img i ≡ []
  tables_end h = drop_of_length-le (tables_of form img) {i = i} (omega (arith, nine form img))

  pub words_on : i < 9 → table_words (tables_from form img i) ≡ (table_at form img i).lines * row_width (table_at form img i).row + table_words (tables_from form img (i + 1))
  unfolding table_words
  words_on h = rw (tables_on h)

-- No row has more words than one of the action table.
pub row_fits : (form : Form) (img : List ℕ) → Sized img → (i : ℕ) → row_width (table_at form img i).row ≤ 64
unfolding tables_of row_width sizes
row_fits form img s zero = omega arith
row_fits form img s (suc zero) = omega arith
row_fits form img s (suc (suc zero)) = omega arith
row_fits form img s (suc (suc (suc zero))) = rw (cells_width form _) s.t_most
row_fits form img s (suc (suc (suc (suc zero)))) = rw (cells_width form _) (omega (arith, s.n_most))
row_fits form img s (suc (suc (suc (suc (suc zero))))) = omega arith
row_fits form img s (suc (suc (suc (suc (suc (suc zero)))))) = rw (cells_width form _) (omega (arith, s.c_most))
row_fits form img s (suc (suc (suc (suc (suc (suc (suc zero))))))) = omega arith
row_fits form img s (suc (suc (suc (suc (suc (suc (suc (suc zero)))))))) = omega arith
row_fits form img s (suc (suc (suc (suc (suc (suc (suc (suc (suc i))))))))) = omega arith
