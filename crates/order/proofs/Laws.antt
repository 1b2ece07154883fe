-- Laws of the shape's tests: what a loop over them does, and what a verdict says of each. Assumes nothing.
use mathlib.Core.Path.{◌≡◌, refl, sym, ◌∙◌}
use mathlib.Core.Bool.{Bool, true, false, ◌&&◌}
use mathlib.Core.List.{List}
use Prim.Native.Nat.{ℕ, zero, suc, ◌+◌, ◌*◌, ◌-◌, ◌<◌, ◌≤◌, min}
use native.Mathlib.Nat.{not-suc-le-zero, le_of_suc-le-suc, add-zero, zero-lt-suc, zero-add, zero-mul, suc-mul, add_comm, mul-le-mul}
use native.Mathlib.Numerals.{add-one}
use native.Mathlib.Omega.{arith}
use lib.ListN.{length, get_or-eq_default}
use borrow.Author.Tests.{eq-eqb, ne_eqb, eqb-true, leb-true, ltb-true}
use Rattle.numbers.specs.Verdicts.{Verdict, Good, Wrong, is_wrong}
use Rattle.pack.specs.Image.{word, size_words, terminals, states, nonterminals, scan_states, classes, goto_start, move_start, least_size, greatest_size, needed}
use Rattle.order.specs.Shape.{rule, and_then, each, size_rule, length_rule, head_rules, dom_rule, act_rule, cell_rule, goto_rules, move_rules, scan_rule}
use Rattle.order.specs.declared.Ruled.TheVariants.{Dom, Act, Scan}
use Rattle.order.specs.Rows.{row_rule}
use Rattle.pack.specs.Laid.{Sized, Laid}

-- Two tests are both true; a verdict that is good says so of each part.
pub both : (a b : Bool) → (a && b) ≡ true → (a ≡ true) × (b ≡ true)
both true true e = (refl, refl)
both true false e = let z : ◌≡◌ {A = ℕ} 0 1 = cc in absurd (omega arith)
both false b e = let z : ◌≡◌ {A = ℕ} 0 1 = cc in absurd (omega arith)

pub rule_good : (holds : Bool) (place : ℕ) → rule holds place ≡ Good → holds ≡ true
unfolding rule
rule_good true place e = refl
rule_good false place e = let z : ◌≡◌ {A = ℕ} 0 1 = cc in absurd (omega arith)

pub and_then_good : (a b : Verdict) → and_then a b ≡ Good → (a ≡ Good) × (b ≡ Good)
unfolding and_then
and_then_good Good b e = (refl, e)
and_then_good (Wrong p) b e = let z : ◌≡◌ {A = ℕ} 0 1 = cc in absurd (omega arith)

pub is_good : (v : Verdict) → is_wrong v ≡ false → v ≡ Good
unfolding is_wrong
is_good Good e = refl
is_good (Wrong p) e = let z : ◌≡◌ {A = ℕ} 0 1 = cc in absurd (omega arith)

pub is_wrong_lem : (v : Verdict) → is_wrong v ≡ true → (p : ℕ) × (v ≡ Wrong p)
unfolding is_wrong
is_wrong_lem Good e = let z : ◌≡◌ {A = ℕ} 0 1 = cc in absurd (omega arith)
is_wrong_lem (Wrong p) e = (p, refl)

-- A chain of tests: the first that is wrong is the answer, and one that is good leaves the answer to the next.
pub then_wrong : (a b : Verdict) (p : ℕ) → a ≡ Wrong p → and_then a b ≡ Wrong p
unfolding and_then
then_wrong a b p e = rw e refl

pub then_good : (a b : Verdict) → a ≡ Good → and_then a b ≡ b
unfolding and_then
then_good a b e = rw e refl

-- A loop over the tests i, i+1, .. below e: a test fails, a test holds, it is at the end.
left_over : (e i : ℕ) → i < e → e - i ≡ suc (e - (i + 1))
left_over e i h = omega arith

pub each_wrong : (test : ℕ → Verdict) (e i place : ℕ) → i < e → test i ≡ Wrong place → each test (e - i) i ≡ Wrong place
unfolding each
each_wrong test e i place h t = rw (left_over e i h, each, t) refl

pub each_right : (test : ℕ → Verdict) (e i : ℕ) → i < e → test i ≡ Good → each test (e - i) i ≡ each test (e - (i + 1)) (i + 1)
unfolding each
each_right test e i h t = rw (left_over e i h, each, t) refl

pub each_over : (test : ℕ → Verdict) (e i : ℕ) → e ≤ i → each test (e - i) i ≡ Good
unfolding each
each_over test e i h = let z : e - i ≡ 0 = omega arith in rw z refl

-- Every test holds exactly where all of them are good.
pub each_all : (test : ℕ → Verdict) (n k : ℕ) → ((i : ℕ) → i < n → test (k + i) ≡ Good) → each test n k ≡ Good
unfolding each
each_all test zero k h = refl
each_all test (suc n) k h =
    let now : test k ≡ Good = rw (add-zero k) at (h 0 (zero-lt-suc n)) in
    simp (each, now) (each_all test n (k + 1) (λ i l. let z : k + 1 + i ≡ k + suc i = omega arith in rw z (h (suc i) (omega arith))))

pub each_good : (test : ℕ → Verdict) (n k : ℕ) → each test n k ≡ Good → (i : ℕ) → i < n → test (k + i) ≡ Good
unfolding each
each_good test zero k e i l = absurd (not-suc-le-zero l)
each_good test (suc n) k e i l = go (each_good test n (k + 1)) (test k) refl e i l
  where
    go : (each test n (k + 1) ≡ Good → (j : ℕ) → j < n → test (k + 1 + j) ≡ Good) → (v : Verdict) → test k ≡ v
        → elim v as (λ x. Verdict) [ Good ↦ each test n (k + 1) | Wrong p ↦ Wrong p ] ≡ Good → (j : ℕ) → j < suc n → test (k + j) ≡ Good
    go ih (Wrong p) t f j m = let z : ◌≡◌ {A = ℕ} 0 1 = cc in absurd (omega arith)
    go ih Good t f zero m = rw (add-zero k) t
    go ih Good t f (suc j) m = let z : k + suc j ≡ k + 1 + j = omega arith in rw z (ih f j (le_of_suc-le-suc m))

pub each_at : (test : ℕ → Verdict) (n : ℕ) → each test n 0 ≡ Good → (i : ℕ) → i < n → test i ≡ Good
each_at test n e i l = rw (zero-add i) at (each_good test n 0 e i l)

-- A loop that ends before tests that all hold.
pub each_rest : (test : ℕ → Verdict) (e i : ℕ) → ((j : ℕ) → i ≤ j → j < e → test j ≡ Good) → each test (e - i) i ≡ Good
each_rest test e i h = each_all test (e - i) i (λ j l. h (i + j) (omega arith) (omega arith))

-- Tests in rows are tests one after the other.
pub each_append : (test : ℕ → Verdict) (a b i : ℕ) → each test (a + b) i ≡ and_then (each test a i) (each test b (i + a))
unfolding each and_then
each_append test zero b i = rw (zero-add b, add-zero i)
each_append test (suc a) b i =
    let z : suc a + b ≡ suc (a + b) = omega arith in
    let y : i + suc a ≡ i + 1 + a = omega arith in
    rw (z, y) (go (test i) refl (each_append test a b (i + 1)))
  where
    go : (v : Verdict) → test i ≡ v → each test (a + b) (i + 1) ≡ and_then (each test a (i + 1)) (each test b (i + 1 + a))
        → each test (suc (a + b)) i ≡ and_then (each test (suc a) i) (each test b (i + 1 + a))
    go Good e ih = simp (each, e) ih
    go (Wrong p) e ih = simp (each, e, and_then)

-- A loop passes over tests that all hold.
pub each_pass : (test : ℕ → Verdict) (e i k : ℕ) → i + k ≤ e → each test k i ≡ Good → each test (e - i) i ≡ each test (e - (i + k)) (i + k)
unfolding and_then
each_pass test e i k h g =
    let z : e - i ≡ k + (e - (i + k)) = omega arith in
    rw z (each_append test k (e - (i + k)) i ∙ rw g refl)

pub each_shift : (test : ℕ → Verdict) (k n i : ℕ) → each (λ j. test (k + j)) n i ≡ each test n (k + i)
unfolding each
each_shift test k zero i = refl
each_shift test k (suc n) i = go (test (k + i)) refl (each_shift test k n (i + 1))
  where
    go : (v : Verdict) → test (k + i) ≡ v → each (λ j. test (k + j)) n (i + 1) ≡ each test n (k + (i + 1))
        → each (λ j. test (k + j)) (suc n) i ≡ each test (suc n) (k + i)
    go Good e ih = let z : k + i + 1 ≡ k + (i + 1) = omega arith in simp (each, e, z) ih
    go (Wrong p) e ih = simp (each, e)

pub each_rows : (test : ℕ → Verdict) (w r s : ℕ) → each (λ q. each (λ c. test (q * w + c)) w 0) r s ≡ each test (r * w) (s * w)
unfolding each and_then
each_rows test w zero s = rw (zero-mul w)
each_rows test w (suc r) s =
    let z : suc r * w ≡ w + r * w = suc-mul r w ∙ add_comm (r * w) w in
    let y : (s + 1) * w ≡ s * w + w = rw (add-one s) (suc-mul s w) in
    let row : each (λ c. test (s * w + c)) w 0 ≡ each test w (s * w) = each_shift test (s * w) w 0 ∙ rw (add-zero (s * w)) in
    rw (z, each_append test w (r * w) (s * w)) (go (each (λ c. test (s * w + c)) w 0) refl row (rw y at (each_rows test w r (s + 1))))
  where
    go : (v : Verdict) → each (λ c. test (s * w + c)) w 0 ≡ v → each (λ c. test (s * w + c)) w 0 ≡ each test w (s * w)
        → each (λ q. each (λ c. test (q * w + c)) w 0) r (s + 1) ≡ each test (r * w) (s * w + w)
        → each (λ q. each (λ c. test (q * w + c)) w 0) (suc r) s ≡ and_then (each test w (s * w)) (each test (r * w) (s * w + w))
    go Good e f ih = simp (each, e, sym f ∙ e, and_then) ih
    go (Wrong p) e f ih = simp (each, e, sym f ∙ e, and_then)

-- Sizes within their limits are sized, and an image of that length is laid out.
size_good : (img : List ℕ) → each (size_rule img) size_words 1 ≡ Good → (i : ℕ) → i < size_words
    → (1 + i < length img) × (least_size (1 + i) ≤ word img (1 + i)) × (word img (1 + i) ≤ greatest_size (1 + i))
unfolding size_rule
size_good img e i l =
    let r = both _ _ (rule_good _ _ (each_good (size_rule img) size_words 1 e i l)) in
    let m = both _ _ r.1 in
    (ltb-true _ _ r.0, leb-true _ _ m.0, leb-true _ _ m.1)

pub sizes_sized : (img : List ℕ) → each (size_rule img) size_words 1 ≡ Good → Sized img
unfolding least_size greatest_size
sizes_sized img e =
    let at = size_good img e in
    let t = at 0 (omega arith) in
    let n = at 1 (omega arith) in
    let p = at 2 (omega arith) in
    let s = at 3 (omega arith) in
    let q = at 4 (omega arith) in
    let c = at 5 (omega arith) in
    let r = at 6 (omega arith) in
    let g = at 7 (omega arith) in
    record {
      there = omega (arith, g.0);
      t_least = t.1;
      t_most = t.2;
      n_least = n.1;
      n_most = n.2;
      p_least = p.1;
      p_most = p.2;
      s_least = s.1;
      s_most = s.2;
      q_least = q.1;
      q_most = q.2;
      c_least = c.1;
      c_most = c.2;
      r_most = r.2;
      g_most = g.2;
      act_cells = mul-le-mul s.2 t.2;
      goto_cells = mul-le-mul s.2 n.2;
      move_cells = mul-le-mul q.2 c.2;
    }

pub head_laid : (img : List ℕ) → head_rules img ≡ Good → Laid img
unfolding head_rules length_rule
head_laid img e =
    let r = and_then_good _ _ (and_then_good _ _ e).1 in
    record { sized = sizes_sized img r.0; whole = eqb-true _ _ (rule_good _ _ r.1) }

-- There is no word 0.
pub no_word : (img : List ℕ) → length img ≡ 0 → word img 0 ≡ 0
no_word img h = get_or-eq_default img 0 (omega arith)

-- The length of the whole: it is short, it is long, it is right.
pub length_short : (img : List ℕ) → length img < needed img → length_rule img ≡ Wrong (length img)
unfolding length_rule rule
length_short img h =
    let m : min (length img) (needed img) ≡ length img = omega arith in
    simp (length_rule, ne_eqb (length img) (needed img) (λ z. omega arith), rule, m)

pub length_long : (img : List ℕ) → needed img < length img → length_rule img ≡ Wrong (needed img)
unfolding length_rule rule
length_long img h =
    let m : min (length img) (needed img) ≡ needed img = omega arith in
    simp (length_rule, ne_eqb (length img) (needed img) (λ z. omega arith), rule, m)

pub length_right : (img : List ℕ) → needed img ≤ length img → length img ≤ needed img → length_rule img ≡ Good
unfolding length_rule rule
length_right img h k = simp (length_rule, eq-eqb (length img) (needed img) (omega arith), rule)

-- The goto table and the move table are each read as one run of words.
flat : (img : List ℕ) (most start w r : ℕ)
    → each (λ q. each (λ c. cell_rule img most (start + (q * w + c))) w 0) r 0 ≡ each (λ i. cell_rule img most (start + i)) (r * w) 0
flat img most start w r = each_rows (λ i. cell_rule img most (start + i)) w r 0 ∙ rw (zero-mul w)

module _ (img : List ℕ) {v : Verdict} {n start most : ℕ} (e : v ≡ each (λ i. cell_rule img most (start + i)) n 0) where
  pub goto_cells : n ≡ states img * nonterminals img → start ≡ goto_start img → most ≡ states img → v ≡ goto_rules img
  unfolding goto_rules
  goto_cells en es em = e ∙ rw (en, es, em) (sym (flat img (states img) (goto_start img) (nonterminals img) (states img)))

  pub move_cells : n ≡ scan_states img * classes img → start ≡ move_start img → most ≡ scan_states img → v ≡ move_rules img
  unfolding move_rules
  move_cells en es em = e ∙ rw (en, es, em) (sym (flat img (scan_states img) (move_start img) (classes img) (scan_states img)))

-- The tables that are walked row by row where a quick pass says no.
pub dom_rows : (img : List ℕ) (n : ℕ) → each (row_rule img Dom) n 0 ≡ each (dom_rule img) n 0
unfolding row_rule
dom_rows img n = refl

pub act_rows : (img : List ℕ) (n : ℕ) → each (row_rule img Act) n 0 ≡ each (λ s. each (act_rule img s) (terminals img) 0) n 0
unfolding row_rule
act_rows img n = refl

pub scan_rows : (img : List ℕ) (n : ℕ) → each (row_rule img Scan) n 0 ≡ each (scan_rule img) n 0
unfolding row_rule
scan_rows img n = refl
