-- Laws of sets of numbers and of rows of them: one number more, the least number, a set made anew. Assumes nothing.
use mathlib.Core.Path.{◌≡◌, refl, sym, ap, ap₂, ◌∙◌}
use mathlib.Core.Bool.{Bool, true, false, ◌&&◌}
use mathlib.Core.List.{List}
use Prim.Native.Nat.{ℕ, zero, suc, ◌+◌, ◌*◌, ◌-◌, ◌/◌, ◌%◌, ◌<◌, ◌≤◌, ◌^◌, max}
use native.Mathlib.Numerals.{add-one}
use native.Mathlib.Omega.{arith}
use lib.Dec.{eqb, ltb}
use lib.ListN.{length, get_or, set, replicate, get_or-replicate, length-set}
use lib.Seq.{get_or-set_same, get_or-set_other}
use lib.Bits.{bit_and, bit_or}
use lib.Arith.{lt_of_le-ne}
use lib.Pow.{shr-shr, shr_le, pow-add, pow-lt, mod-mod-pow}
use native.Mathlib.Nat.{mod-lt, mod-eq_of_lt}
use borrow.Author.Tests.{eq-eqb, ne_eqb, lt-ltb, le-ltb, eqb-true, eqb-false, ltb-true, ltb-false}
use mir.Val.{bits}
use Rattle.std.specs.Int.{Width, w64, w128, trailing_zeros}
use Rattle.std.proofs.lemmas.Nat.{or_lt, mod-pow-add, div-mul-add, pow_pos}
use Rattle.std.proofs.lemmas.Nat.Bits.{bit_at-pow_same, bit_at-pow_other, bit_at-trailing_zeros}
use Rattle.sets.specs.Sets.{has, member, subset}
use Rattle.sets.proofs.Laws.{has-lt, has_none, has_above, has-or, one_shifted}
use Rattle.conditions.specs.Tests.{all_below, some_below, implies}
use Rattle.conditions.proofs.TestLaws.{alike, false-true, implies_gives, implies_all, all_each, all_true, some_one, some_true, member-has, has-member, subset_is}
use Rattle.edges.specs.Rows.{bit_at, either, Put, PutOne, PutEach, Whole, all_in, only_in, Next, Made}

-- Two sets in one, and the bit of a number.
pub union_fits : (a b : ℕ) → a < 2 ^ 128 → b < 2 ^ 128 → bit_or a b < 2 ^ 128
union_fits a b h k = or_lt 128 a b h k

pub member_bit : (set n : ℕ) → eqb (set / 2 ^ n % 2) 1 ≡ member set n
unfolding member has
member_bit set n = refl

pub member_or : (a b t : ℕ) → member (bit_or a b) t ≡ either (member a t) (member b t)
unfolding member either
member_or a b t = rw (has-or a b t) (go (has a t) (has b t) (has-lt a t) (has-lt b t))
  where
    go : (x y : ℕ) → x < 2 → y < 2 → eqb (max x y) 1 ≡ either (eqb x 1) (eqb y 1)
    go zero zero l m = refl
    go zero (suc zero) l m = refl
    go (suc zero) zero l m = refl
    go (suc zero) (suc zero) l m = refl
    go (suc (suc x)) y l m = absurd (omega arith)
    go zero (suc (suc y)) l m = absurd (omega arith)
    go (suc zero) (suc (suc y)) l m = absurd (omega arith)

-- The set of one number, and of none.
pub whole_one : (n one : ℕ) → n < 128 → one ≡ 2 ^ n → Whole (λ y. eqb y n) one
unfolding member has
whole_one n one l f = rw f (record { each = λ t m. go t (eqb t n) refl })
  where
    go : (t : ℕ) (x : Bool) → eqb t n ≡ x → eqb (2 ^ n / 2 ^ t % 2) 1 ≡ eqb t n
    go t true e = let z : t ≡ n = eqb-true t n e in rw e (eq-eqb (2 ^ n / 2 ^ t % 2) 1 (rw z (bit_at-pow_same n)))
    go t false e = rw e (ne_eqb (2 ^ n / 2 ^ t % 2) 1 (λ f. omega (arith, bit_at-pow_other n t (eqb-false t n e))))

-- The same by halves: a number below 64, and one from 64 on.
pub whole_low : (n one : ℕ) → n < 64 → one ≡ 1 * 2 ^ n % 18446744073709551616 → Whole (λ y. eqb y n) one
whole_low n one l e = whole_one n one (omega (arith, l)) (e ∙ one_shifted n l)

pub whole_high : (n one : ℕ) → n < 64 → one ≡ 1 * 2 ^ n % 18446744073709551616 → Whole (λ y. eqb y (64 + n)) (one * 18446744073709551616 % 340282366920938463463374607431768211456)
whole_high n one l e =
    let z : one * 18446744073709551616 ≡ 2 ^ (64 + n) = omega (arith, e, one_shifted n l, pow-add 2 64 n) in
    let b : 2 ^ (64 + n) < 340282366920938463463374607431768211456 = pow-lt {i = 64 + n} {j = 128} (omega (arith, l)) in
    whole_one (64 + n) (one * 18446744073709551616 % 340282366920938463463374607431768211456) (omega (arith, l)) (rw z (mod-eq_of_lt b))

pub whole_far : (n : ℕ) → 128 ≤ n → Whole (λ y. eqb y n) 0
unfolding member
whole_far n l = record { each = λ t m. rw (has_none t) (sym (ne_eqb t n (λ e. omega arith))) }

pub whole_none : {f : ℕ → Bool} → ((y : ℕ) → f y ≡ false) → Whole f 0
unfolding member
whole_none {f} e = record { each = λ t l. rw (has_none t, e t) }

-- Tests that ask the same of every number below 128; and two sets in one.
pub whole_same : {f g : ℕ → Bool} {set : ℕ} → ((y : ℕ) → y < 128 → f y ≡ g y) → Whole f set → Whole g set
whole_same e w = record { each = λ t l. w.each t l ∙ e t l }

pub whole_or : {f g : ℕ → Bool} {a b : ℕ} → Whole f a → Whole g b → Whole (λ y. either (f y) (g y)) (bit_or a b)
whole_or {a = a} {b = b} v w = record { each = λ t l. member_or a b t ∙ rw (v.each t l, w.each t l) }

-- A set of a row, whole.
pub whole_of : (set : ℕ) → Whole (member set) set
whole_of set = record { each = λ t l. refl }

-- One number more in a set.
pub with_none : (set : ℕ) → Whole (λ y. either (member set y) (eqb 0 (1 + y))) set
unfolding either
with_none set = whole_same (λ y l. rw (ne_eqb 0 (1 + y) (λ z. omega arith)) (go (member set y))) (whole_of set)
  where
    go : (x : Bool) → x ≡ either x false
    go true = refl
    go false = refl

pub with_one : (set n one : ℕ) → Whole (λ y. eqb y n) one → Whole (λ y. either (member set y) (eqb (1 + n) (1 + y))) (bit_or set one)
with_one set n one w =
    whole_same (λ y l. ap (λ (x : Bool). either (member set y) x) (alike (eqb y n) (eqb (1 + n) (1 + y))
    (λ e. eq-eqb (1 + n) (1 + y) (omega (arith, eqb-true y n e))) (λ e. eq-eqb y n (omega (arith, eqb-true (1 + n) (1 + y) e)))))
    (whole_or (whole_of set) w)

-- Everything in a set is in another.
pub inside_is : (a b : ℕ) → a < 2 ^ 128 → eqb (bit_and a b) a ≡ all_in a (member b)
unfolding subset all_in
inside_is a b l = alike (eqb (bit_and a b) a) (all_below 128 (λ t. implies (member a t) (member b t)))
    (λ e. all_true 128 (λ t. implies (member a t) (member b t)) (λ t m. implies_all (member a t) (member b t) (λ h. has-member b t (((subset_is a b).sound e).each t (member-has a t h)))))
    (λ e. (subset_is a b).complete (record { each = λ t h. go e t h (ltb t 128) refl }))
  where
    go : all_below 128 (λ t. implies (member a t) (member b t)) ≡ true → (t : ℕ) → has a t ≡ 1 → (x : Bool) → ltb t 128 ≡ x → has b t ≡ 1
    go e t h true f = member-has b t (implies_gives (member a t) (member b t) (all_each 128 (λ t. implies (member a t) (member b t)) e t (ltb-true t 128 f)) (has-member a t h))
    go e t h false f = absurd (omega (arith, has_above t l (ltb-false t 128 f)))

pub all_same : (set n one : ℕ) → Whole (λ y. eqb y n) one → all_in set (member one) ≡ only_in set n
unfolding all_in
all_same set n one w = all_alike 128 (λ t l. ap (λ (x : Bool). implies (member set t) x) (w.each t l))
  where
    all_alike : {f g : ℕ → Bool} (k : ℕ) → ((t : ℕ) → t < k → f t ≡ g t) → all_below k f ≡ all_below k g
    all_alike {f} {g} k h =
        alike (all_below k f) (all_below k g) (λ e. all_true k g (λ t l. sym (h t l) ∙ all_each k f e t l)) (λ e. all_true k f (λ t l. h t l ∙ all_each k g e t l))

-- One number more in a row.
pub put_none : (row : List ℕ) (b : ℕ) → Put row 0 b row
unfolding either
put_none row b = record { size = refl; each = λ v c lv lc. rw (ne_eqb 0 (1 + v) (λ z. omega arith)) (go (bit_at row v c)) }
  where
    go : (x : Bool) → x ≡ either x false
    go true = refl
    go false = refl

pub put_one : (row : List ℕ) (v b one : ℕ) → v < length row → Whole (λ y. eqb y b) one → Put row (1 + v) b (set row v (bit_or (get_or row v 0) one))
unfolding either
put_one row v b one long w = record { size = length-set row v (bit_or (get_or row v 0) one); each = λ u c lu lc. go u c lc (eqb u v) refl }
  where
    right : (x : Bool) → x ≡ either x false
    right true = refl
    right false = refl

    go : (u c : ℕ) → c < 128 → (x : Bool) → eqb u v ≡ x → bit_at (set row v (bit_or (get_or row v 0) one)) u c ≡ either (bit_at row u c) (eqb (1 + v) (1 + u) && eqb c b)
    go u c lc true e =
        let z : u ≡ v = eqb-true u v e in
        rw (z, get_or-set_same row v (bit_or (get_or row v 0) one) 0 long, member_or (get_or row v 0) one c, w.each c lc, eq-eqb (1 + v) (1 + v) refl)
    go u c lc false e =
        let n = eqb-false u v e in
        rw (get_or-set_other row v u (bit_or (get_or row v 0) one) 0 n, ne_eqb (1 + v) (1 + u) (λ z. n (omega arith))) (right (bit_at row u c))

-- Nothing is in a row of empty sets.
pub empty_row : (v u : ℕ) → v < 128 → u < 128 → bit_at (replicate 128 0) v u ≡ false
unfolding member
empty_row v u lv lu = rw (get_or-replicate {A = ℕ} 128 v 0 0 lv, has_none u)

-- Tests put together.
either-and : (a e p q : Bool) → either (either a (e && p)) (q && e) ≡ either a (e && either p q)
unfolding either
either-and true e p q = refl
either-and false true true q = refl
either-and false true false true = refl
either-and false true false false = refl
either-and false false p true = refl
either-and false false p false = refl

either_none : (a e : Bool) → a ≡ either a (e && false)
unfolding either
either_none true e = refl
either_none false true = refl
either_none false false = refl

pub some_more : (n : ℕ) (f : ℕ → Bool) → some_below (n + 1) f ≡ either (some_below n f) (f n)
unfolding some_below either
some_more n f = rw (add-one n)

pub some_same : (n : ℕ) (f g : ℕ → Bool) → ((i : ℕ) → i < n → f i ≡ g i) → some_below n f ≡ some_below n g
unfolding some_below either
some_same zero f g h = refl
some_same (suc n) f g h = ap₂ (λ (a b : Bool). either a b) (some_same n f g (λ i l. h i (omega arith))) (h n (omega arith))

-- What is passed over is not there: some number below a passes where some number below b does, if none between them does.
pub some_past : (a b : ℕ) (f : ℕ → Bool) → a ≤ b → ((t : ℕ) → a ≤ t → t < b → f t ≡ false) → some_below a f ≡ some_below b f
some_past a b f l none = alike (some_below a f) (some_below b f) forth back
  where
    forth : some_below a f ≡ true → some_below b f ≡ true
    forth e = let r = some_one a f e in some_true b f r.0 (omega (arith, r.1)) r.2

    back : some_below b f ≡ true → some_below a f ≡ true
    back e = let r = some_one b f e in go r.0 r.1 r.2 (ltb r.0 a) refl
      where
        go : (t : ℕ) → t < b → f t ≡ true → (x : Bool) → ltb t a ≡ x → some_below a f ≡ true
        go t m h true g = some_true a f t (ltb-true t a g) h
        go t m h false g = false-true (sym (none t (ltb-false t a g) m) ∙ h)

-- A number below x + 1 that is not x is below x.
pub below_other : (y x : ℕ) → eqb y x ≡ false → ltb y (x + 1) ≡ ltb y x
below_other y x f = go (ltb y x) refl
  where
    go : (b : Bool) → ltb y x ≡ b → ltb y (x + 1) ≡ ltb y x
    go true g = rw g (lt-ltb y (x + 1) (omega (arith, ltb-true y x g)))
    go false g = rw g (le-ltb y (x + 1) (omega (arith, lt_of_le-ne (ltb-false y x g) (λ z. eqb-false y x f (sym z)))))

-- Numbers put in one after the other.
module _ (to : ℕ → ℕ) {row mid after : List ℕ} {x : ℕ} where
  pub one_more : {s t : ℕ} → PutOne to s x row mid → t ≡ to x → Put mid t s after → PutOne to s (x + 1) row after
  one_more {s} {t} p e q = record {
    size = q.size ∙ p.size;
    each = λ v u lv lu.
        q.each v u lv lu ∙ rw (p.each v u lv lu, e, some_more x (λ y. eqb (to y) (1 + v)))
        (either-and (bit_at row v u) (eqb u s) (some_below x (λ y. eqb (to y) (1 + v))) (eqb (to x) (1 + v)));
  }

  pub each_more : {t : ℕ} → PutEach to x row mid → t ≡ to x → Put mid t x after → PutEach to (x + 1) row after
  unfolding either
  each_more {t} p e q = record { size = q.size ∙ p.size; each = λ v y lv ly. q.each v y lv ly ∙ rw (p.each v y lv ly, e) (go v y (bit_at row v y) (eqb y x) refl) }
    where
      last : (a b : Bool) → either (either a (false && b)) (b && true) ≡ either a (true && b)
      last true b = refl
      last false true = refl
      last false false = refl

      other : (a l b c : Bool) → either (either a (l && b)) (c && false) ≡ either a (l && b)
      other true l b c = refl
      other false true true c = refl
      other false true false true = refl
      other false true false false = refl
      other false false b true = refl
      other false false b false = refl

      go : (v y : ℕ) (a b : Bool) → eqb y x ≡ b
          → either (either a (ltb y x && eqb (to y) (1 + v))) (eqb (to x) (1 + v) && eqb y x) ≡ either a (ltb y (x + 1) && eqb (to y) (1 + v))
      go v y a true f =
          let z : y ≡ x = eqb-true y x f in
          rw (z, le-ltb x x (omega arith), lt-ltb x (x + 1) (omega arith), eq-eqb x x refl) (last a (eqb (to x) (1 + v)))
      go v y a false f = rw (f, below_other y x f) (other a (ltb y x) (eqb (to y) (1 + v)) (eqb (to x) (1 + v)))

-- Numbers that are put nowhere are passed over.
module _ (to : ℕ → ℕ) {x z : ℕ} (l : x ≤ z) (none : (t : ℕ) → x ≤ t → t < z → to t ≡ 0) where
  nowhere : (v t : ℕ) → x ≤ t → t < z → eqb (to t) (1 + v) ≡ false
  nowhere v t a b = ne_eqb (to t) (1 + v) (λ e. omega (arith, none t a b))

  pub one_past : {s : ℕ} {row mid : List ℕ} → PutOne to s x row mid → PutOne to s z row mid
  one_past {s} {row} p = record { size = p.size; each = λ v u lv lu. p.each v u lv lu ∙ ap (λ (b : Bool). either (bit_at row v u) (eqb u s && b)) (some_past x z (λ y. eqb (to y) (1 + v)) l (nowhere v)) }

  pub each_past : {row mid : List ℕ} → PutEach to x row mid → PutEach to z row mid
  each_past {row} p = record { size = p.size; each = λ v y lv ly. p.each v y lv ly ∙ ap (λ (b : Bool). either (bit_at row v y) b) (go v y (ltb y x) refl (ltb y z) refl) }
    where
      go : (v y : ℕ) (a : Bool) → ltb y x ≡ a → (b : Bool) → ltb y z ≡ b → (ltb y x && eqb (to y) (1 + v)) ≡ (ltb y z && eqb (to y) (1 + v))
      go v y true e b f = rw (e, lt-ltb y z (omega (arith, ltb-true y x e)))
      go v y false e true f = rw (e, f, nowhere v y (ltb-false y x e) (ltb-true y z f))
      go v y false e false f = rw (e, f)

pub one_none : (to : ℕ → ℕ) (s : ℕ) (row : List ℕ) → PutOne to s 0 row row
unfolding some_below
one_none to s row = record { size = refl; each = λ v u lv lu. either_none (bit_at row v u) (eqb u s) }

pub each_none : (to : ℕ → ℕ) (row : List ℕ) → PutEach to 0 row row
each_none to row = record { size = refl; each = λ v x lv lx. rw (le-ltb x 0 (omega arith)) (either_none (bit_at row v x) false) }

-- The halves of a set.
has_low : (set t j : ℕ) → has (set % 2 ^ (j + 1 + t)) t ≡ has set t
unfolding has
has_low set t j = rw (mod-pow-add set (j + 1) t, div-mul-add (set / 2 ^ t % 2 ^ (j + 1)) (2 ^ t) (set % 2 ^ t) (mod-lt set (pow_pos t))) (mod-mod-pow (set / 2 ^ t) j 1)

pub low_half : (set t : ℕ) → t < 64 → member (set % 18446744073709551616) t ≡ member set t
unfolding member
low_half set t l =
    let z : 63 - t + 1 + t ≡ 64 = omega arith in
    ap (λ (n : ℕ). eqb n 1) (rw z at (has_low set t (63 - t)))

-- The next number of a set: what is shifted away is below it.
shifted : (word b t : ℕ) → b ≤ t → member word t ≡ member (word / 2 ^ b) (t - b)
unfolding member has
shifted word b t l = let z : b + (t - b) ≡ t = omega arith in rw (shr-shr word b (t - b), z)

nothing : (word b k : ℕ) → b ≤ k → word / 2 ^ b ≡ 0 → Next (member word) k b k
unfolding member
nothing word b k l e = record { from = l; most = omega arith; there = λ m. absurd (omega arith); none = λ t lt m. shifted word b t lt ∙ rw (e, has_none (t - b)) }

least : (w : Width) (word b : ℕ) → word < 2 ^ bits w → 0 < word / 2 ^ b
    → (b + trailing_zeros w (word / 2 ^ b) < bits w) × Next (member word) (bits w) b (b + trailing_zeros w (word / 2 ^ b))
unfolding member has
least w word b fits some = (
  few,
  record {
    from = omega arith;
    most = omega (arith, few);
    there = λ m. here;
    none = λ t l m. shifted word b t l ∙ ne_eqb (word / 2 ^ b / 2 ^ (t - b) % 2) 1 (λ e. omega (arith, low.2 (t - b) (omega arith)));
  },
)
  where
    low : (trailing_zeros w (word / 2 ^ b) < bits w) × (word / 2 ^ b / 2 ^ trailing_zeros w (word / 2 ^ b) % 2 ≡ 1)
        × ((i : ℕ) → i < trailing_zeros w (word / 2 ^ b) → word / 2 ^ b / 2 ^ i % 2 ≡ 0)
    low = bit_at-trailing_zeros w (word / 2 ^ b) some (omega (arith, shr_le word b))

    here : member word (b + trailing_zeros w (word / 2 ^ b)) ≡ true
    here =
        let z : b + trailing_zeros w (word / 2 ^ b) - b ≡ trailing_zeros w (word / 2 ^ b) = omega arith in
        shifted word b (b + trailing_zeros w (word / 2 ^ b)) (omega arith) ∙ rw z (eq-eqb (word / 2 ^ b / 2 ^ trailing_zeros w (word / 2 ^ b) % 2) 1 low.1)

    few : b + trailing_zeros w (word / 2 ^ b) < bits w
    few = go (ltb (b + trailing_zeros w (word / 2 ^ b)) (bits w)) refl
      where
        go : (x : Bool) → ltb (b + trailing_zeros w (word / 2 ^ b)) (bits w) ≡ x → b + trailing_zeros w (word / 2 ^ b) < bits w
        go true f = ltb-true _ _ f
        go false f = absurd (omega (arith, member-has word (b + trailing_zeros w (word / 2 ^ b)) here, has_above (b + trailing_zeros w (word / 2 ^ b)) fits (ltb-false _ _ f)))

pub next_none : (set b : ℕ) → b ≤ 128 → set / 2 ^ b ≡ 0 → Next (member set) 128 b 128
next_none set b l e = nothing set b 128 l e

pub next_there : (set b : ℕ) → set < 2 ^ 128 → 0 < set / 2 ^ b
    → (b + trailing_zeros w128 (set / 2 ^ b) < 128) × Next (member set) 128 b (b + trailing_zeros w128 (set / 2 ^ b))
next_there set b l some = least w128 set b l some

-- The next number of a set by its halves.
pub high_half : (set t : ℕ) → member (set / 18446744073709551616) t ≡ member set (64 + t)
high_half set t = let z : 64 + t - 64 ≡ t = omega arith in sym (rw z at (shifted set 64 (64 + t) (omega arith)))

module _ (set half : ℕ) where
  pub next_low : {b n : ℕ} → ((t : ℕ) → t < 64 → member half t ≡ member set t) → n < 64 → Next (member half) 64 b n → Next (member set) 128 b n
  next_low {n = n} same l x = record {
    from = x.from;
    most = omega (arith, x.most);
    there = λ m. sym (same n l) ∙ x.there l;
    none = λ t f m. sym (same t (omega (arith, m, l))) ∙ x.none t f m;
  }

  pub next_on : {b n : ℕ} → ((t : ℕ) → t < 64 → member half t ≡ member set t) → Next (member half) 64 b 64 → Next (member set) 128 64 n → Next (member set) 128 b n
  next_on {b} {n} same x y = record { from = omega (arith, x.from, y.from); most = y.most; there = y.there; none = λ t f m. go t f m (ltb t 64) refl }
    where
      go : (t : ℕ) → b ≤ t → t < n → (c : Bool) → ltb t 64 ≡ c → member set t ≡ false
      go t f m true e = sym (same t (ltb-true t 64 e)) ∙ x.none t f (ltb-true t 64 e)
      go t f m false e = y.none t (ltb-false t 64 e) m

  pub next_from_64 : {b n : ℕ} → ((t : ℕ) → t < 64 → member half t ≡ member set (64 + t)) → Next (member half) 64 b n → Next (member set) 128 (64 + b) (64 + n)
  next_from_64 {b} {n} same x = record {
    from = omega (arith, x.from);
    most = omega (arith, x.most);
    there = λ m. sym (same n (omega (arith, m))) ∙ x.there (omega (arith, m));
    none = λ t f m.
        let z : 64 + (t - 64) ≡ t = omega (arith, f) in
        rw z at (sym (same (t - 64) (omega (arith, m, x.most))) ∙ x.none (t - 64) (omega (arith, f)) (omega (arith, m)));
  }

pub next_none64 : (word b : ℕ) → b ≤ 64 → word / 2 ^ b ≡ 0 → Next (member word) 64 b 64
next_none64 word b l e = nothing word b 64 l e

pub next_there64 : (word b : ℕ) → word < 2 ^ 64 → 0 < word / 2 ^ b
    → (b + trailing_zeros w64 (word / 2 ^ b) < 64) × Next (member word) 64 b (b + trailing_zeros w64 (word / 2 ^ b))
next_there64 word b l some = least w64 word b l some

-- Nothing follows the last number.
pub next_past : (test : ℕ → Bool) (n b : ℕ) → b ≡ n → Next test n b n
next_past test n b e = record { from = omega arith; most = omega arith; there = λ m. absurd (omega arith); none = λ t l m. absurd (omega arith) }

-- A set made anew.
pub made_is : (row : List ℕ) (i : ℕ) {test : ℕ → Bool} {w : ℕ} → length row ≡ 128 → i < 128 → Whole test w → Made row i test (set row i w)
made_is row i {test} {w} long l h = record {
  size = length-set row i w ∙ long;
  kept = λ j y lj ly. ap (λ (x : ℕ). member x y) (get_or-set_other row i j w 0 (λ z. omega arith));
  new = λ y ly. ap (λ (x : ℕ). member x y) (get_or-set_same row i w 0 (omega arith)) ∙ h.each y ly;
}
