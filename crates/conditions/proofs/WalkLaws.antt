-- Laws of the walks over the places of a condition: what the loops of the code that seeks the least places lean on. Assumes nothing.
use mathlib.Core.Path.{◌≡◌, refl, sym, ◌∙◌}
use mathlib.Core.Bool.{Bool, true, false}
use mathlib.Core.List.{List}
use Prim.Native.Nat.{ℕ, suc, ◌+◌, ◌-◌, ◌<◌, ◌≤◌}
use native.Mathlib.Nat.{sub-zero}
use Rattle.std.specs.Prelude.{Some, None}
use native.Mathlib.Omega.{arith}
use Rattle.conditions.specs.Check.{Condition, Finding, Holds, Fails, finding_of, firsts, seconds, test, in_row, in_rows, find, is_fails}
use Rattle.conditions.proofs.TestLaws.{false-true}

-- Where the walk of a condition begins.
pub find_start : (c : Condition) (img : List ℕ) {n m : ℕ} → n ≡ firsts c img → m ≡ seconds c img → find c img ≡ in_rows (test c img) m (n - 0) 0
unfolding find
find_start c img {n} {m} e f = rw (sub-zero n, e, f)

-- A walk: over a row, and over rows.
module _ (right : ℕ → ℕ → Bool) (m : ℕ) where
  -- What is left of a row, and then of the rows.
  pub rest : ℕ → ℕ → Finding → Finding
  rest e i row = elim row [ Holds ↦ in_rows right m (e - (i + 1)) (i + 1) | Fails first second ↦ Fails first second ]

  pub rows_end : (e i : ℕ) → e ≤ i → in_rows right m (e - i) i ≡ Holds
  unfolding in_rows
  rows_end e i l = let z : e - i ≡ 0 = omega arith in rw z

  pub rows_row : (e i : ℕ) → i < e → in_rows right m (e - i) i ≡ rest e i (in_row (right i) i (m - 0) 0)
  unfolding in_rows rest
  rows_row e i l = let z : e - i ≡ suc (e - (i + 1)) = omega arith in rw (z, sub-zero m)

  pub row_on : (e i j : ℕ) → j < m → right i j ≡ true → rest e i (in_row (right i) i (m - j) j) ≡ rest e i (in_row (right i) i (m - (j + 1)) (j + 1))
  unfolding in_row
  row_on e i j l t = let z : m - j ≡ suc (m - (j + 1)) = omega arith in rw z (simp (in_row, t))

  pub row_hit : (e i j : ℕ) → j < m → right i j ≡ false → rest e i (in_row (right i) i (m - j) j) ≡ Fails i j
  unfolding in_row rest
  row_hit e i j l t = let z : m - j ≡ suc (m - (j + 1)) = omega arith in rw z (simp (in_row, t))

  pub row_end : (e i j : ℕ) → m ≤ j → rest e i (in_row (right i) i (m - j) j) ≡ in_rows right m (e - (i + 1)) (i + 1)
  unfolding in_row rest
  row_end e i j l = let z : m - j ≡ 0 = omega arith in rw z

-- A walk with one place, and one over rows that are walked elsewhere.
module _ (right : ℕ → ℕ → Bool) (e i : ℕ) (l : i < e) where
  pub one_hit : right i 0 ≡ false → in_rows right 1 (e - i) i ≡ Fails i 0
  one_hit f = rows_row right 1 e i l ∙ row_hit right 1 e i 0 (omega arith) f

  pub one_on : right i 0 ≡ true → in_rows right 1 (e - i) i ≡ in_rows right 1 (e - (i + 1)) (i + 1)
  one_on f = rows_row right 1 e i l ∙ row_on right 1 e i 0 (omega arith) f ∙ row_end right 1 e i (0 + 1) (omega arith)

  module _ (m : ℕ) (f : Finding) (t : f ≡ in_row (right i) i m 0) where
    pub found_hit : is_fails f ≡ true → in_rows right m (e - i) i ≡ f
    unfolding rest is_fails
    found_hit g = rows_row right m e i l ∙ rw (sub-zero m, ← t) (go f g)
      where
        go : (x : Finding) → is_fails x ≡ true → rest right m e i x ≡ x
        go Holds h = false-true h
        go (Fails a b) h = refl

    pub found_on : is_fails f ≡ false → in_rows right m (e - i) i ≡ in_rows right m (e - (i + 1)) (i + 1)
    unfolding rest is_fails
    found_on g = rows_row right m e i l ∙ rw (sub-zero m, ← t) (go f g)
      where
        go : (x : Finding) → is_fails x ≡ false → rest right m e i x ≡ in_rows right m (e - (i + 1)) (i + 1)
        go Holds h = refl
        go (Fails a b) h = false-true (sym h)

-- A walk with one place, by what is found.
module _ (right : ℕ → Bool) (e i : ℕ) where
  pub first_hit : i < e → right i ≡ false → in_rows (λ i j. right i) 1 (e - i) i ≡ finding_of (Some (i, 0))
  unfolding finding_of
  first_hit l f = one_hit (λ i j. right i) e i l f

  pub first_on : i < e → right i ≡ true → in_rows (λ i j. right i) 1 (e - i) i ≡ in_rows (λ i j. right i) 1 (e - (i + 1)) (i + 1)
  first_on l f = one_on (λ i j. right i) e i l f

  pub first_end : e ≤ i → in_rows (λ i j. right i) 1 (e - i) i ≡ finding_of None
  unfolding finding_of
  first_end l = rows_end (λ i j. right i) 1 e i l

-- A walk over one row alone.
module _ (right : ℕ → Bool) (i : ℕ) where
  pub in_row_start : {n m : ℕ} → n ≡ m → in_row right i m 0 ≡ in_row right i (n - 0) 0
  in_row_start {n} e = rw (sub-zero n, e)

  pub in_row_end : (m j : ℕ) → m ≤ j → in_row right i (m - j) j ≡ Holds
  unfolding in_row
  in_row_end m j l = let z : m - j ≡ 0 = omega arith in rw z

  pub in_row_on : (m j : ℕ) → j < m → right j ≡ true → in_row right i (m - j) j ≡ in_row right i (m - (j + 1)) (j + 1)
  unfolding in_row
  in_row_on m j l t = let z : m - j ≡ suc (m - (j + 1)) = omega arith in rw z (simp (in_row, t))

  pub in_row_hit : (m j : ℕ) → j < m → right j ≡ false → in_row right i (m - j) j ≡ Fails i j
  unfolding in_row
  in_row_hit m j l t = let z : m - j ≡ suc (m - (j + 1)) = omega arith in rw z (simp (in_row, t))
