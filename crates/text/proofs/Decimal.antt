-- Numbers in decimal, for any limit: what is written is read back, and what is read is what would be written. Assumes nothing.
use mathlib.Core.Path.{◌≡◌, refl, sym, ap, ◌∙◌}
use mathlib.Core.Bool.{Bool, true, false, ◌&&◌}
use mathlib.Core.List.{List, [], ◌∷◌, ◌++◌, append_assoc}
use Prim.Native.Nat.{ℕ, zero, suc, ◌+◌, ◌*◌, ◌-◌, ◌/◌, ◌%◌, ◌<◌, ◌≤◌}
use native.Mathlib.Omega.{arith}
use lib.Dec.{eqb, leb, ltb}
use lib.ListN.{length, get_or, drop, length-append}
use borrow.Author.Tests.{eq-eqb, ne_eqb, le-leb, lt-ltb, le-ltb, leb-true, leb-false, ltb-true, ltb-false}
use Rattle.text.specs.declared.Field.{Field}
use Rattle.text.specs.Decimal.{is_digit, digits_from, number_in, read_number, decimal_in, decimal}

abbrev pub field : ℕ → ℕ → Field
field v k = record { value = v; used = k }

-- ---- the digits of a number
-- Any count of steps that is not below the number gives the same digits.
enough : (j k n : ℕ) → n ≤ j → n ≤ k → decimal_in j n ≡ decimal_in k n
unfolding decimal_in
enough zero zero n p q = refl
enough zero (suc k) n p q = simp (decimal_in, lt-ltb n 10 (omega arith))
enough (suc j) zero n p q = simp (decimal_in, lt-ltb n 10 (omega arith))
enough (suc j) (suc k) n p q = go (enough j k (n / 10)) (ltb n 10) refl
  where
    go : (n / 10 ≤ j → n / 10 ≤ k → decimal_in j (n / 10) ≡ decimal_in k (n / 10)) → (x : Bool) → ltb n 10 ≡ x → decimal_in (suc j) n ≡ decimal_in (suc k) n
    go ih true e = simp (decimal_in, e)
    go ih false e = let h = ltb-false n 10 e in simp (decimal_in, e, ih (omega arith) (omega arith))

pub decimal_one : (n : ℕ) → n < 10 → decimal n ≡ (48 + n) ∷ []
unfolding decimal decimal_in
decimal_one n h = enough n (suc n) n (omega arith) (omega arith) ∙ simp (decimal_in, lt-ltb n 10 h)

pub decimal_more : (n : ℕ) → 10 ≤ n → decimal n ≡ decimal (n / 10) ++ ((48 + n % 10) ∷ [])
unfolding decimal decimal_in
decimal_more n h =
    enough n (suc n) n (omega arith) (omega arith)
    ∙ simp (decimal_in, le-ltb n 10 h, enough n (n / 10) (n / 10) (omega arith) (omega arith))

-- Induction over the digits: a number of one digit, and one more digit.
by_digits : (P : ℕ → Type 0) → ((n : ℕ) → n < 10 → P n) → ((n : ℕ) → 10 ≤ n → P (n / 10) → P n) → (n : ℕ) → P n
by_digits P one more n = below n n (omega arith)
  where
    below : (k n : ℕ) → n ≤ k → P n
    below zero n h = one n (omega arith)
    below (suc k) n h = go (below k (n / 10)) (ltb n 10) refl
      where
        go : (n / 10 ≤ k → P (n / 10)) → (x : Bool) → ltb n 10 ≡ x → P n
        go ih true e = one n (ltb-true n 10 e)
        go ih false e = let l = ltb-false n 10 e in more n l (ih (omega arith))

pub decimal_some : (n : ℕ) → length (decimal n) ≡ 0 → ⊥
decimal_some = by_digits (λ n. length (decimal n) ≡ 0 → ⊥)
    (λ n h z. let y : length ((48 + n) ∷ []) ≡ 0 = rw (decimal_one n h) at z in omega arith)
    (λ n h ih z. let y = rw (decimal_more n h, length-append (decimal (n / 10)) ((48 + n % 10) ∷ [])) at z in omega arith)

-- The first digit is 0 for the number 0 alone.
first_digit : (n : ℕ) → 1 ≤ n → (rest : List ℕ) → get_or (decimal n ++ rest) 0 0 ≡ 48 → ⊥
first_digit = by_digits (λ n. 1 ≤ n → (rest : List ℕ) → get_or (decimal n ++ rest) 0 0 ≡ 48 → ⊥)
    (λ n h p rest z. let y : 48 + n ≡ 48 = rw (decimal_one n h) at z in omega arith)
    (λ n h ih p rest z. ih (omega arith) ((48 + n % 10) ∷ rest) (rw (decimal_more n h, append_assoc (decimal (n / 10)) ((48 + n % 10) ∷ []) rest) at z))

-- ---- what is written is read back
module _ (limit : ℕ) where
  one_digit : (d : ℕ) (bs : List ℕ) (v k : ℕ) → d < 10 → v ≤ limit → digits_from limit ((48 + d) ∷ bs) v k ≡ digits_from limit bs (v * 10 + d) (k + 1)
  unfolding digits_from is_digit
  one_digit d bs v k h l =
      let z : 48 + d - 48 ≡ d = omega arith in
      simp (digits_from, is_digit, ◌&&◌, le-leb 48 (48 + d) (omega arith), le-leb (48 + d) 57 (omega arith), le-leb _ _ l, z)

  digits_back : (n : ℕ) → n ≤ limit → (rest : List ℕ) → digits_from limit (decimal n ++ rest) 0 0 ≡ digits_from limit rest n (length (decimal n))
  digits_back = by_digits (λ n. n ≤ limit → (rest : List ℕ) → digits_from limit (decimal n ++ rest) 0 0 ≡ digits_from limit rest n (length (decimal n)))
      (λ n h l rest.
      let z : 0 * 10 + n ≡ n = omega arith in
      rw (decimal_one n h) (one_digit n rest 0 0 h (omega arith) ∙ rw z))
      (λ n h ih l rest.
      let d = 48 + n % 10 in
      let z : n / 10 * 10 + n % 10 ≡ n = omega arith in
      rw (decimal_more n h, append_assoc (decimal (n / 10)) (d ∷ []) rest, length-append (decimal (n / 10)) (d ∷ []))
      (ih (omega arith) (d ∷ rest) ∙ one_digit (n % 10) rest (n / 10) (length (decimal (n / 10))) (omega arith) (omega arith) ∙ rw z))

  -- The digits end where no digit follows.
  digits_end : (rest : List ℕ) (v k : ℕ) → is_digit (get_or rest 0 0) ≡ false → digits_from limit rest v k ≡ field v k
  unfolding digits_from
  digits_end [] v k e = refl
  digits_end (b ∷ rest) v k e = simp (digits_from, e)

  no_zero : (n : ℕ) (rest : List ℕ) → (eqb (get_or (decimal n ++ rest) 0 0) 48 && leb 2 (length (decimal n))) ≡ false
  no_zero zero rest = rw (decimal_one 0 (omega arith))
  no_zero (suc n) rest = simp (ne_eqb _ _ (first_digit (suc n) (omega arith) rest), ◌&&◌)

  pub number_back : (n : ℕ) (rest : List ℕ) → n ≤ limit → is_digit (get_or rest 0 0) ≡ false → read_number limit (decimal n ++ rest) ≡ field n (length (decimal n))
  unfolding read_number number_in
  number_back n rest l e =
      let z : digits_from limit (decimal n ++ rest) 0 0 ≡ field n (length (decimal n)) = digits_back n l rest ∙ digits_end rest n _ e in
      simp (read_number, z, number_in, le-leb n limit l, no_zero n rest)

-- ---- the digits stop, or one is taken
data Way (limit b : ℕ) (bs : List ℕ) (v k : ℕ) : Type 0 where
  stops : digits_from limit (b ∷ bs) v k ≡ field v k → Way limit b bs v k
  goes : (d : ℕ) → d < 10 → b ≡ 48 + d → v ≤ limit → digits_from limit (b ∷ bs) v k ≡ digits_from limit bs (v * 10 + d) (k + 1) → Way limit b bs v k

way : (limit b : ℕ) (bs : List ℕ) (v k : ℕ) → Way limit b bs v k
unfolding digits_from is_digit
way limit b bs v k = go (leb 48 b) refl (leb b 57) refl (leb v limit) refl
  where
    go : (x : Bool) → leb 48 b ≡ x → (y : Bool) → leb b 57 ≡ y → (z : Bool) → leb v limit ≡ z → Way limit b bs v k
    go false e y f z g = stops (simp (digits_from, is_digit, ◌&&◌, e))
    go true e false f z g = stops (simp (digits_from, is_digit, ◌&&◌, e, f))
    go true e true f false g = stops (simp (digits_from, is_digit, ◌&&◌, e, f, g))
    go true e true f true g =
        let h = leb-true 48 b e in
        let l = leb-true b 57 f in
        goes (b - 48) (omega arith) (omega arith) (leb-true v limit g) (simp (digits_from, is_digit, ◌&&◌, e, f, g))

-- ---- what is read is what would be written
module _ (limit : ℕ) where
  grows : (bytes : List ℕ) (v k : ℕ) → k ≤ (digits_from limit bytes v k).used
  unfolding digits_from
  grows [] v k = omega arith
  grows (b ∷ bs) v k = go (λ w j. grows bs w j) (way limit b bs v k)
    where
      go : ((w j : ℕ) → j ≤ (digits_from limit bs w j).used) → Way limit b bs v k → k ≤ (digits_from limit (b ∷ bs) v k).used
      go ih (stops e) = rw e (omega arith)
      go ih (goes d h l m e) = rw e (omega (arith, ih (v * 10 + d) (k + 1)))

  stays : (bytes : List ℕ) (v k : ℕ) → (digits_from limit bytes v k).used ≡ k → (digits_from limit bytes v k).value ≡ v
  unfolding digits_from
  stays [] v k z = refl
  stays (b ∷ bs) v k z = go (way limit b bs v k)
    where
      go : Way limit b bs v k → (digits_from limit (b ∷ bs) v k).value ≡ v
      go (stops e) = rw e
      go (goes d h l m e) = let y : (digits_from limit bs (v * 10 + d) (k + 1)).used ≡ k = rw e at z in absurd (omega (arith, y, grows bs (v * 10 + d) (k + 1)))

  -- From a number of one digit or more on, each digit that is read is one more digit of the number.
  more : (bytes : List ℕ) (v k : ℕ) → 1 ≤ v → decimal (digits_from limit bytes v k).value ++ drop ((digits_from limit bytes v k).used - k) bytes ≡ decimal v ++ bytes
  unfolding digits_from
  more [] v k h = let z : k - k ≡ 0 = omega arith in rw z
  more (b ∷ bs) v k h = go (λ w j. more bs w j) (way limit b bs v k)
    where
      go : ((w j : ℕ) → 1 ≤ w → decimal (digits_from limit bs w j).value ++ drop ((digits_from limit bs w j).used - j) bs ≡ decimal w ++ bs) → Way limit b bs v k
          → decimal (digits_from limit (b ∷ bs) v k).value ++ drop ((digits_from limit (b ∷ bs) v k).used - k) (b ∷ bs) ≡ decimal v ++ (b ∷ bs)
      go ih (stops e) = let z : k - k ≡ 0 = omega arith in rw (e, z)
      go ih (goes d a c m e) =
          let g = grows bs (v * 10 + d) (k + 1) in
          let z : (digits_from limit bs (v * 10 + d) (k + 1)).used - k ≡ suc ((digits_from limit bs (v * 10 + d) (k + 1)).used - (k + 1)) = omega (arith, g) in
          let q : (v * 10 + d) / 10 ≡ v = omega arith in
          let r : 48 + (v * 10 + d) % 10 ≡ b = omega arith in
          rw (e, z) (ih (v * 10 + d) (k + 1) (omega arith) ∙ rw (decimal_more (v * 10 + d) (omega arith), q, r) (append_assoc (decimal v) (b ∷ []) bs))

  module _ (b : ℕ) (bs : List ℕ) where
    -- The first digit is not 0, or it is the only one.
    first : (f : Field) → f ≡ digits_from limit (b ∷ bs) 0 0 → (f.used ≡ 0 → ⊥) → (b ≡ 48 → f.used < 2) → decimal f.value ++ drop f.used (b ∷ bs) ≡ b ∷ bs
    first f e z o = go (way limit b bs 0 0)
      where
        go : Way limit b bs 0 0 → decimal f.value ++ drop f.used (b ∷ bs) ≡ b ∷ bs
        go (stops q) = let y : f.used ≡ 0 = ap (λ (x : Field). x.used) (e ∙ q) in absurd (z y)
        go (goes d h m n q) = split d h m (rw (zero_digit d) at (e ∙ q))
          where
            zero_digit : (d : ℕ) → 0 * 10 + d ≡ d
            zero_digit d = omega arith

            split : (d : ℕ) → d < 10 → b ≡ 48 + d → f ≡ digits_from limit bs d 1 → decimal f.value ++ drop f.used (b ∷ bs) ≡ b ∷ bs
            split zero h m r =
                let u : f.used ≡ (digits_from limit bs 0 1).used = ap (λ (x : Field). x.used) r in
                let y : f.used ≡ 1 = omega (arith, o (omega arith), grows bs 0 1) in
                let x : f.value ≡ 0 = ap (λ (x : Field). x.value) r ∙ stays bs 0 1 (sym u ∙ y) in
                rw (y, x, decimal_one 0 (omega arith)) (ap (λ (c : ℕ). c ∷ bs) (omega arith))
            split (suc d) h m r =
                let u : f.used ≡ (digits_from limit bs (suc d) 1).used = ap (λ (x : Field). x.used) r in
                let w : f.value ≡ (digits_from limit bs (suc d) 1).value = ap (λ (x : Field). x.value) r in
                let y : f.used ≡ suc ((digits_from limit bs (suc d) 1).used - 1) = omega (arith, grows bs (suc d) 1) in
                rw (y, w) (more bs (suc d) 1 (omega arith) ∙ rw (decimal_one (suc d) h) (ap (λ (c : ℕ). c ∷ bs) (omega arith)))

  pub number_text : (bytes : List ℕ) → ((read_number limit bytes).used ≡ 0 → ⊥) → decimal (read_number limit bytes).value ++ drop (read_number limit bytes).used bytes ≡ bytes
  unfolding read_number number_in digits_from
  number_text [] z = absurd (z (go (leb 0 limit) refl))
    where
      go : (x : Bool) → leb 0 limit ≡ x → (read_number limit []).used ≡ 0
      go true e = simp (read_number, number_in, digits_from, e, ◌&&◌)
      go false e = simp (read_number, number_in, digits_from, e)
  number_text (b ∷ bs) z =
      go (digits_from limit (b ∷ bs) 0 0) refl (leb (digits_from limit (b ∷ bs) 0 0).value limit) refl (eqb b 48) refl (leb 2 (digits_from limit (b ∷ bs) 0 0).used) refl
    where
      go : (f : Field) → f ≡ digits_from limit (b ∷ bs) 0 0 → (x : Bool) → leb f.value limit ≡ x → (y : Bool) → eqb b 48 ≡ y → (w : Bool) → leb 2 f.used ≡ w
          → decimal (read_number limit (b ∷ bs)).value ++ drop (read_number limit (b ∷ bs)).used (b ∷ bs) ≡ b ∷ bs
      go f e false p y q w r = absurd (z (simp (read_number, number_in, ← e, p)))
      go f e true p true q true r = absurd (z (simp (read_number, number_in, ← e, p, q, r)))
      go f e true p true q false r =
          let s : read_number limit (b ∷ bs) ≡ f = simp (read_number, number_in, ← e, p, q, r) in
          rw s (first b bs f e (rw s at z) (λ k. leb-false _ _ r))
      go f e true p false q w r =
          let s : read_number limit (b ∷ bs) ≡ f = simp (read_number, number_in, ← e, p, q) in
          rw s (first b bs f e (rw s at z) (λ k. let t : false ≡ true = sym q ∙ eq-eqb b 48 k in let y : ◌≡◌ {A = ℕ} 0 1 = cc in absurd (omega arith)))

  -- A number is the limit at the most.
  pub number_small : (bytes : List ℕ) → (read_number limit bytes).value ≤ limit
  unfolding read_number number_in
  number_small bytes = go (leb (digits_from limit bytes 0 0).value limit) refl (eqb (get_or bytes 0 0) 48 && leb 2 (digits_from limit bytes 0 0).used) refl
    where
      go : (a : Bool) → leb (digits_from limit bytes 0 0).value limit ≡ a → (b : Bool) → (eqb (get_or bytes 0 0) 48 && leb 2 (digits_from limit bytes 0 0).used) ≡ b
          → (read_number limit bytes).value ≤ limit
      go false p b q = simp (read_number, number_in, p) (omega arith)
      go true p true q = simp (read_number, number_in, p, q) (omega arith)
      go true p false q = simp (read_number, number_in, p, q) (leb-true _ _ p)

  -- Where no number stands, its value is 0; a byte that is no digit begins none.
  pub number_unread : (bytes : List ℕ) → (read_number limit bytes).used ≡ 0 → (read_number limit bytes).value ≡ 0
  unfolding read_number number_in
  number_unread bytes = go (leb (digits_from limit bytes 0 0).value limit) refl (eqb (get_or bytes 0 0) 48 && leb 2 (digits_from limit bytes 0 0).used) refl
    where
      go : (a : Bool) → leb (digits_from limit bytes 0 0).value limit ≡ a → (b : Bool) → (eqb (get_or bytes 0 0) 48 && leb 2 (digits_from limit bytes 0 0).used) ≡ b
          → (read_number limit bytes).used ≡ 0 → (read_number limit bytes).value ≡ 0
      go false p b q z = simp (read_number, number_in, p)
      go true p true q z = simp (read_number, number_in, p, q)
      go true p false q z =
          let r : read_number limit bytes ≡ digits_from limit bytes 0 0 = simp (read_number, number_in, p, q) in
          rw r (stays bytes 0 0 (rw r at z))

  pub number_no_digit : (bytes : List ℕ) → is_digit (get_or bytes 0 0) ≡ false → (read_number limit bytes).used ≡ 0
  unfolding read_number number_in
  number_no_digit bytes e = go (eqb (get_or bytes 0 0) 48) refl
    where
      go : (x : Bool) → eqb (get_or bytes 0 0) 48 ≡ x → (read_number limit bytes).used ≡ 0
      go true p = simp (read_number, number_in, digits_end limit bytes 0 0 e, le-leb 0 limit (omega arith), p)
      go false p = simp (read_number, number_in, digits_end limit bytes 0 0 e, le-leb 0 limit (omega arith), p)
