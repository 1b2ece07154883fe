-- What the answers of the check say: it passes exactly the packs that pass, and code 5 names the first condition that fails, at its
-- least places. One walk serves all conditions. Assumes nothing.
use mathlib.Core.Path.{◌≡◌, refl, sym, ap, ap₂, ◌∙◌}
use mathlib.Core.Bool.{Bool, true, false}
use mathlib.Core.List.{List, [], ◌∷◌}
use Prim.Native.Nat.{ℕ, zero, suc, ◌+◌, ◌<◌, ◌≤◌}
use native.Mathlib.Omega.{arith}
use lib.Dec.{eqb, ltb}
use lib.Arith.{lt_of_le-ne}
use borrow.Author.Tests.{eqb-true, eqb-false, ltb-true, ltb-false}
use Rattle.std.specs.Prelude.{Option, Some, None, Result, Ok, Err}
use Rattle.numbers.specs.Codes.{wrong_shape}
use Rattle.numbers.specs.Verdicts.{Verdict, Good, Wrong}
use Rattle.shape.specs.Shape.{shape}
use Rattle.conditions.specs.declared.Checked.{Checked}
use Rattle.conditions.specs.declared.Failing.{Failing}
use Rattle.conditions.specs.declared.Failing.TheVariants.{Word, Condition as AtPlaces}
use Rattle.conditions.specs.Failing.{numbers_of}
use Rattle.conditions.specs.Conditions.{Passes}
use Rattle.conditions.specs.Check.{Condition, Finding, Holds, Fails, finding_of, number, firsts, seconds, Meets, test, in_row, in_rows, find, report, passed, failed, first_failing, check_all, plain, check, Everywhere, Least, FirstFails, this, later, AllHold, none, more}
use Rattle.conditions.proofs.TestLaws.{false-true}
use Rattle.conditions.proofs.Decides.{decides}

-- A walk over one row, second places from j on, below e; a walk over rows.
data RowWalk (right : ℕ → Bool) (i j e : ℕ) : Finding → Type 0 where
  row_holds : ((k : ℕ) → j ≤ k → k < e → right k ≡ true) → RowWalk right i j e Holds
  row_fails : {b : ℕ} → j ≤ b → b < e → right b ≡ false → ((k : ℕ) → j ≤ k → k < b → right k ≡ true) → RowWalk right i j e (Fails i b)

row_walk : (right : ℕ → Bool) (i n j : ℕ) → RowWalk right i j (j + n) (in_row right i n j)
unfolding in_row
row_walk right i zero j = row_holds (λ k l m. absurd (omega arith))
row_walk right i (suc n) j = go (right j) refl (in_row right i n (j + 1)) (row_walk right i n (j + 1))
  where
    first : right j ≡ true → (e : ℕ) → ((k : ℕ) → j + 1 ≤ k → k < e → right k ≡ true) → (k : ℕ) → j ≤ k → k < e → right k ≡ true
    first t e h k l m = split (eqb j k) refl
      where
        split : (b : Bool) → eqb j k ≡ b → right k ≡ true
        split true f = let z : j ≡ k = eqb-true j k f in rw (← z) t
        split false f = h k (omega (arith, lt_of_le-ne l (eqb-false j k f))) m

    go : (x : Bool) → right j ≡ x → (f : Finding) → RowWalk right i (j + 1) (j + 1 + n) f
        → RowWalk right i j (j + suc n) (elim x [ true ↦ f | false ↦ Fails i j ])
    go false t f w = row_fails {b = j} (omega arith) (omega arith) t (λ k l m. absurd (omega arith))
    go true t Holds (row_holds h) = row_holds (λ k l m. first t (j + 1 + n) h k l (omega arith))
    go true t (Fails a b) (row_fails l m e h) = row_fails {b = b} (omega arith) (omega arith) e (first t b h)

data Walk (right : ℕ → ℕ → Bool) (m i e : ℕ) : Finding → Type 0 where
  walk_holds : ((k j : ℕ) → i ≤ k → k < e → j < m → right k j ≡ true) → Walk right m i e Holds
  walk_fails : {a b : ℕ} → i ≤ a → a < e → b < m → right a b ≡ false → ((k j : ℕ) → i ≤ k → k < a → j < m → right k j ≡ true)
      → ((j : ℕ) → j < b → right a j ≡ true) → Walk right m i e (Fails a b)

walk : (right : ℕ → ℕ → Bool) (m n i : ℕ) → Walk right m i (i + n) (in_rows right m n i)
unfolding in_rows
walk right m zero i = walk_holds (λ k j l h o. absurd (omega arith))
walk right m (suc n) i = go (in_row (right i) i m 0) (row_walk (right i) i m 0) (in_rows right m n (i + 1)) (walk right m n (i + 1))
  where
    first : ((j : ℕ) → j < m → right i j ≡ true) → (e : ℕ) → ((k j : ℕ) → i + 1 ≤ k → k < e → j < m → right k j ≡ true)
        → (k j : ℕ) → i ≤ k → k < e → j < m → right k j ≡ true
    first t e h k j l o p = split (eqb i k) refl
      where
        split : (b : Bool) → eqb i k ≡ b → right k j ≡ true
        split true f = let z : i ≡ k = eqb-true i k f in rw (← z) (t j p)
        split false f = h k j (omega (arith, lt_of_le-ne l (eqb-false i k f))) o p

    go : (x : Finding) → RowWalk (right i) i 0 (0 + m) x → (f : Finding) → Walk right m (i + 1) (i + 1 + n) f
        → Walk right m i (i + suc n) (elim x [ Holds ↦ f | Fails a b ↦ Fails a b ])
    go (Fails a b) (row_fails l o e h) f w = walk_fails {a = i} {b = b} (omega arith) (omega arith) (omega arith) e (λ k j p q r. absurd (omega arith)) (λ j l. h j (omega arith) l)
    go Holds (row_holds h) Holds (walk_holds g) = walk_holds (λ k j l o p. first (λ j l. h j (omega arith) (omega arith)) (i + 1 + n) g k j l (omega arith) p)
    go Holds (row_holds h) (Fails a b) (walk_fails l o p e g q) =
        walk_fails {a = a} {b = b} (omega arith) (omega arith) p e (first (λ j l. h j (omega arith) (omega arith)) a g) q

-- One condition.
data Found (c : Condition) (img : List ℕ) : Finding → Type 0 where
  everywhere : Everywhere c img → Found c img Holds
  least : {a b : ℕ} → Least c img a b → Found c img (Fails a b)

module _ (img : List ℕ) (good : shape img ≡ Good) where
  found : (c : Condition) → Found c img (find c img)
  unfolding find
  found c = go (find c img) (walk (test c img) (seconds c img) (firsts c img) 0)
    where
      go : (f : Finding) → Walk (test c img) (seconds c img) 0 (0 + firsts c img) f → Found c img f
      go Holds (walk_holds h) = everywhere (record { each = λ i j l m. (decides c img good i j l m).sound (h i j (omega arith) (omega arith) m) })
      go (Fails a b) (walk_fails l o p e g q) =
          least {a = a} {b = b} (record {
            first_is = omega arith;
            second_is = p;
            fails = λ h. false-true (sym e ∙ (decides c img good a b (omega arith) p).complete h);
            rows_before = λ i j l m. (decides c img good i j (omega arith) m).sound (g i j (omega arith) l m);
            before = λ j l. (decides c img good a j (omega arith) (omega arith)).sound (q j l);
          })

  -- The conditions listed.
  data Answered : List Condition → Checked → Type 0 where
    all_hold : {cs : List Condition} → AllHold img cs → Answered cs passed
    one_fails : {cs : List Condition} {n a b : ℕ} → FirstFails img cs n a b → Answered cs (failed n a b)

  answered : (cs : List Condition) → Answered cs (first_failing img cs)
  unfolding first_failing report
  answered [] = all_hold none
  answered (c ∷ cs) = go (find c img) (found c) (first_failing img cs) (answered cs)
    where
      go : (f : Finding) → Found c img f → (r : Checked) → Answered cs r → Answered (c ∷ cs) (report (number c) f r)
      go (Fails a b) (least l) r w = one_fails (this l)
      go Holds (everywhere h) r (all_hold a) = all_hold (more h a)
      go Holds (everywhere h) r (one_fails a) = one_fails (later h a)

-- A list of conditions that all hold has none that fails first.
pub not_both : {img : List ℕ} {cs : List Condition} {n a b : ℕ} → AllHold img cs → FirstFails img cs n a b → ⊥
not_both none x = elim x [ ]
not_both (more h rest) (this l) = l.fails (h.each _ _ l.first_is l.second_is)
not_both (more h rest) (later g f) = not_both rest f

-- For any list of conditions: the check gives zeros exactly where shape is good and all of them hold.
module _ (cs : List Condition) (img : List ℕ) where
  pub all_hold_checked : shape img ≡ Good → AllHold img cs → check_all cs img ≡ passed
  unfolding check_all
  all_hold_checked good h = simp (check_all, good) (go (first_failing img cs) (answered img good cs))
    where
      go : (r : Checked) → Answered img good cs r → r ≡ passed
      go r (all_hold a) = refl
      go r (one_fails f) = absurd (not_both h f)

  pub checked_good : check_all cs img ≡ passed → shape img ≡ Good
  unfolding check_all
  checked_good = go (shape img)
    where
      go : (v : Verdict) → elim v as (λ x. Checked) [ Wrong place ↦ record { code = wrong_shape; number = place; first = 0; second = 0 } | Good ↦ first_failing img cs ] ≡ passed → v ≡ Good
      go Good e = refl
      go (Wrong place) e = let z : ◌≡◌ {A = ℕ} 4 0 = ap (λ (r : Checked). r.code) e in absurd (omega arith)

  pub checked_all_hold : check_all cs img ≡ passed → AllHold img cs
  unfolding check_all
  checked_all_hold e = go (first_failing img cs) (answered img (checked_good e) cs) (simp (check_all, checked_good e) at e)
    where
      go : (r : Checked) → Answered img (checked_good e) cs r → r ≡ passed → AllHold img cs
      go r (all_hold a) f = a
      go r (one_fails f) g = let z : ◌≡◌ {A = ℕ} 5 0 = ap (λ (r : Checked). r.code) g in absurd (omega arith)

  -- .. and code 5 exactly where shape is good and this is the first condition that fails, at its least places.
  pub checked_fails : {n a b : ℕ} → check_all cs img ≡ failed n a b → (shape img ≡ Good) × FirstFails img cs n a b
  unfolding check_all
  checked_fails {n} {a} {b} e = go (shape img) refl e
    where
      in_good : (good : shape img ≡ Good) (r : Checked) → Answered img good cs r → r ≡ failed n a b → FirstFails img cs n a b
      in_good good r (all_hold h) g = let z : ◌≡◌ {A = ℕ} 0 5 = ap (λ (r : Checked). r.code) g in absurd (omega arith)
      in_good good r (one_fails f) g =
          rw (ap (λ (r : Checked). r.number) g, ap (λ (r : Checked). r.first) g, ap (λ (r : Checked). r.second) g) at f

      go : (v : Verdict) → shape img ≡ v
          → elim v as (λ x. Checked) [ Wrong place ↦ record { code = wrong_shape; number = place; first = 0; second = 0 } | Good ↦ first_failing img cs ]
          ≡ failed n a b → (shape img ≡ Good) × FirstFails img cs n a b
      go Good s f = (s, in_good s (first_failing img cs) (answered img s cs) f)
      go (Wrong place) s f = let z : ◌≡◌ {A = ℕ} 4 5 = ap (λ (r : Checked). r.code) f in absurd (omega arith)

-- The plain check: "A pack passes exactly when shape and the six listed conditions hold."
all_of : {img : List ℕ} → Passes img → AllHold img plain
unfolding firsts seconds Meets
all_of p =
    more (record { each = λ i j l m. p.k1 i l })
    (more (record { each = λ i j l m. p.k2 i l })
    (more (record { each = λ i j l m. p.k3 i j l m })
    (more (record { each = λ i j l m. p.k4 i l })
    (more (record { each = λ i j l m. p.k5 i j l m })
    (more (record { each = λ i j l m. p.k6 i l }) none)))))

of_all : {img : List ℕ} → shape img ≡ Good → AllHold img plain → Passes img
unfolding firsts seconds Meets
of_all good (more h1 (more h2 (more h3 (more h4 (more h5 (more h6 none)))))) = record {
  good = good;
  k1 = λ q l. h1.each q 0 l (omega arith);
  k2 = λ q l. h2.each q 0 l (omega arith);
  k3 = λ s q l m. h3.each s q l m;
  k4 = λ v l. h4.each v 0 l (omega arith);
  k5 = λ s p l m. h5.each s p l m;
  k6 = λ s l. h6.each s 0 l (omega arith);
}

pub passes_checked : (img : List ℕ) → Passes img → check img ≡ passed
unfolding check
passes_checked img p = all_hold_checked plain img p.good (all_of p)

pub checked_passes : (img : List ℕ) → check img ≡ passed → Passes img
unfolding check
checked_passes img e = of_all (checked_good plain img e) (checked_all_hold plain img e)

pub fails_first : (img : List ℕ) {n a b : ℕ} → check img ≡ failed n a b → (shape img ≡ Good) × FirstFails img plain n a b
unfolding check
fails_first img e = checked_fails plain img e

-- The first failing condition and its least places are one: so code 5 is given exactly for them.
module _ {c : Condition} {img : List ℕ} {a b d e : ℕ} (l : Least c img a b) (m : Least c img d e) where
  same_first : (x y : Bool) → ltb a d ≡ x → ltb d a ≡ y → a ≡ d
  same_first true y f g = absurd (l.fails (m.rows_before a b (ltb-true a d f) l.second_is))
  same_first false true f g = absurd (m.fails (l.rows_before d e (ltb-true d a g) m.second_is))
  same_first false false f g = omega (arith, ltb-false a d f, ltb-false d a g)

  same_second : a ≡ d → (x y : Bool) → ltb b e ≡ x → ltb e b ≡ y → b ≡ e
  same_second z true y f g = absurd (l.fails (rw z (m.before b (ltb-true b e f))))
  same_second z false true f g = absurd (m.fails (rw (← z) (l.before e (ltb-true e b g))))
  same_second z false false f g = omega (arith, ltb-false b e f, ltb-false e b g)

pub one_first : {img : List ℕ} {cs : List Condition} {n a b m d e : ℕ} → FirstFails img cs n a b → FirstFails img cs m d e → (n ≡ m) × (a ≡ d) × (b ≡ e)
one_first (this l) (this m) = let z = same_first l m _ _ refl refl in (refl, z, same_second l m z _ _ refl refl)
one_first (this l) (later h f) = absurd (l.fails (h.each _ _ l.first_is l.second_is))
one_first (later h f) (this l) = absurd (l.fails (h.each _ _ l.first_is l.second_is))
one_first (later h f) (later k g) = one_first f g

pub fails_checked : (cs : List Condition) (img : List ℕ) {n a b : ℕ} → shape img ≡ Good → FirstFails img cs n a b → check_all cs img ≡ failed n a b
unfolding check_all
fails_checked cs img {n} {a} {b} good f = simp (check_all, good) (go (first_failing img cs) (answered img good cs))
  where
    go : (r : Checked) → Answered img good cs r → r ≡ failed n a b
    go r (all_hold h) = absurd (not_both h f)
    go r (one_fails {n = m} {a = d} {b = e} g) = let z = one_first g f in rw (z.0, z.1, z.2)

-- What is found is one, and so is what the code gives for an answer.
pub same_finding : (a b : Option (ℕ × ℕ)) → finding_of a ≡ finding_of b → a ≡ b
unfolding finding_of
same_finding None None e = refl
same_finding None (Some q) e = cc
same_finding (Some p) None e = cc
same_finding (Some p) (Some q) e = let f : p.0 ≡ q.0 = cc in let g : p.1 ≡ q.1 = cc in ap₂ (λ (x y : ℕ). Some (x, y)) f g

pub same_outcome : (a b : Result (Unit {0}) Failing) → numbers_of a ≡ numbers_of b → a ≡ b
same_outcome (Ok u) (Ok v) e = refl
same_outcome (Ok u) (Err (Word p)) e = let z : ◌≡◌ {A = ℕ} 0 4 = ap (λ (r : Checked). r.code) e in absurd (omega arith)
same_outcome (Ok u) (Err (AtPlaces n a b)) e = let z : ◌≡◌ {A = ℕ} 0 5 = ap (λ (r : Checked). r.code) e in absurd (omega arith)
same_outcome (Err (Word p)) (Ok v) e = let z : ◌≡◌ {A = ℕ} 4 0 = ap (λ (r : Checked). r.code) e in absurd (omega arith)
same_outcome (Err (Word p)) (Err (Word q)) e = ap (λ (x : ℕ). Err (Word x)) (ap (λ (r : Checked). r.number) e)
same_outcome (Err (Word p)) (Err (AtPlaces n a b)) e = let z : ◌≡◌ {A = ℕ} 4 5 = ap (λ (r : Checked). r.code) e in absurd (omega arith)
same_outcome (Err (AtPlaces n a b)) (Ok v) e = let z : ◌≡◌ {A = ℕ} 5 0 = ap (λ (r : Checked). r.code) e in absurd (omega arith)
same_outcome (Err (AtPlaces n a b)) (Err (Word q)) e = let z : ◌≡◌ {A = ℕ} 5 4 = ap (λ (r : Checked). r.code) e in absurd (omega arith)
same_outcome (Err (AtPlaces n a b)) (Err (AtPlaces m c d)) e =
    rw (ap (λ (r : Checked). r.number) e, ap (λ (r : Checked). r.first) e, ap (λ (r : Checked). r.second) e)
