-- Laws of sums, by which a count over a whole table speaks of each of its cells. Assumes nothing.
use mathlib.Core.Path.{◌≡◌, refl, sym, ap₂, ◌∙◌}
use Prim.Native.Nat.{ℕ, zero, suc, ◌+◌, ◌*◌, ◌<◌, ◌≤◌}
use native.Mathlib.Nat.{not-suc-le-zero, add-zero, zero-mul, suc-mul}
use native.Mathlib.Omega.{arith}
use borrow.Author.Count.{below_more}
use native.Mathlib.Numerals.{add-one}
use Rattle.order.specs.Quick.{sum}

-- A loop that adds one term after the other.
pub sum_on : (f : ℕ → ℕ) (n : ℕ) {m r : ℕ} → m ≡ sum f n → r ≡ f n → m + r ≡ sum f (n + 1)
unfolding sum
sum_on f n e g = rw (add-one n) (rw (e, g) refl)

pub sum_end : (f : ℕ → ℕ) (n k : ℕ) {m : ℕ} → m ≡ sum f n → n ≡ k → m ≡ sum f k
sum_end f n k e g = e ∙ rw g refl

pub sum_reaches : (f : ℕ → ℕ) (n k : ℕ) {m most : ℕ} → m ≡ sum f n → n ≡ k → most ≤ m → most ≤ sum f k
sum_reaches f n k e g h = rw (sum_end f n k e g) at h

pub sum_same : (f g : ℕ → ℕ) (n : ℕ) → ((i : ℕ) → i < n → f i ≡ g i) → sum f n ≡ sum g n
unfolding sum
sum_same f g zero h = refl
sum_same f g (suc n) h = ap₂ (λ (a b : ℕ). a + b) (sum_same f g n (λ i l. h i (omega arith))) (h n (omega arith))

pub sum-append : (f : ℕ → ℕ) (a b : ℕ) → sum f (a + b) ≡ sum f a + sum (λ i. f (a + i)) b
unfolding sum
sum-append f a zero = rw (add-zero a) (sym (add-zero (sum f a)))
sum-append f a (suc b) =
    let z : a + suc b ≡ suc (a + b) = omega arith in
    rw z (omega (arith, sum-append f a b))

-- A sum over rows of so many.
pub sum_rows : (f : ℕ → ℕ) (w r : ℕ) → sum f (r * w) ≡ sum (λ s. sum (λ t. f (s * w + t)) w) r
unfolding sum
sum_rows f w zero = rw (zero-mul w) refl
sum_rows f w (suc r) = rw (suc-mul r w, sum-append f (r * w) w) (omega (arith, sum_rows f w r))

-- A term is at most the sum, and so is the first one with another.
pub term : (f : ℕ → ℕ) (n i : ℕ) → i < n → f i ≤ sum f n
unfolding sum
term f zero i l = absurd (not-suc-le-zero l)
term f (suc n) i l = below_more (λ j. f j ≤ sum f n + f n) _ (λ j h. omega (arith, term f n j h)) (omega arith) i (omega arith)

pub first_and : (f : ℕ → ℕ) (n t : ℕ) → 1 ≤ t → t < n → f 0 + f t ≤ sum f n
unfolding sum
first_and f zero t m l = absurd (not-suc-le-zero l)
first_and f (suc n) t m l = go (first_and f n)
  where
    go : ((u : ℕ) → 1 ≤ u → u < n → f 0 + f u ≤ sum f n) → f 0 + f t ≤ sum f n + f n
    go ih =
        below_more (λ j. 1 ≤ j → f 0 + f j ≤ sum f n + f n) n (λ j h k. omega (arith, ih j k h)) (λ k. omega (arith, term f n 0 k)) t
        (omega arith) m

pub first : (f : ℕ → ℕ) (n : ℕ) → 1 ≤ n → f 0 ≤ sum f n
first f n l = term f n 0 l

sum-le : (g h : ℕ → ℕ) (n : ℕ) → ((i : ℕ) → i < n → g i ≤ h i) → sum g n ≤ sum h n
unfolding sum
sum-le g h zero m = omega arith
sum-le g h (suc n) m = omega (arith, sum-le g h n (λ i l. m i (omega arith)), m n (omega arith))

-- Where no term is less than another's and the sums are the other way round, the terms are too.
pub tight : (g h : ℕ → ℕ) (n : ℕ) → ((i : ℕ) → i < n → g i ≤ h i) → sum h n ≤ sum g n → (i : ℕ) → i < n → h i ≤ g i
unfolding sum
tight g h zero m e i l = absurd (not-suc-le-zero l)
tight g h (suc n) m e i l =
    let low : sum g n ≤ sum h n = sum-le g h n (λ j k. m j (omega arith)) in
    let last : g n ≤ h n = m n (omega arith) in
    below_more (λ j. h j ≤ g j) n (tight g h n (λ j k. m j (omega arith)) (omega arith)) (omega arith) i (omega arith)
