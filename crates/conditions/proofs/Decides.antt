-- Each test decides its condition: `decides_1` to `decides_6`, in their order, and `decides` for all of them. Assumes nothing.
use mathlib.Core.Path.{◌≡◌, refl, sym, ◌∙◌}
use mathlib.Core.Bool.{true, ◌&&◌}
use mathlib.Core.List.{List}
use Prim.Native.Nat.{ℕ, zero, suc, ◌+◌, ◌-◌, ◌<◌, ◌≤◌}
use native.Mathlib.Omega.{arith}
use lib.Dec.{eqb, leb}
use borrow.Author.Tests.{eq-eqb, le-leb, eqb-true, leb-true}
use Rattle.sets.specs.Sets.{member, meet, several, subset}
use Rattle.sets.proofs.Laws.{has-and, has-lt}
use Rattle.pack.specs.Image.{terminals, states, classes, dom, lhs, len, symbol, act, goto, move, acc, rej, poss, start_symbol}
use Rattle.numbers.specs.Verdicts.{Good}
use Rattle.shape.specs.Shape.{shape}
use Rattle.shape.proofs.Good.{good_laid}
use Rattle.conditions.specs.Edges.{Edge, Back, symbols, leads, enters, only_on, reached}
use Rattle.conditions.specs.Tests.{all_below, implies, same, Decides}
use Rattle.conditions.specs.Conditions.{K3, K4, K5, K6, Reduces, outranked, k1, within, k2, is_group, settled, k3, k4, reduces, steps, ends, k5, k6, from_start, Subset, matched, Outranked, K1, K2, sought}
use Rattle.conditions.specs.Check.{Condition, c1, c2, c3, c4, c5, c6, firsts, seconds, Meets, test}
use Rattle.conditions.proofs.TestLaws.{and_left, and_right, and_both, implies_gives, implies_all, same_is, same_all, all_each, all_true, some_one, some_true, member-has, has-member, some_terminal, terminal_some, subset_is}
use Rattle.conditions.proofs.EdgeLaws.{edge_from, edge_on, leads_by, leads_is, enters_by, enters_is, only_each, only_is, back_from, reached_back, back_reached}

-- The conditions of the scanner's tables, of any image.
module _ (img : List ℕ) where
  outranked_by : (q t : ℕ) → outranked img (matched img q) t ≡ true → Outranked img q t
  unfolding outranked
  outranked_by q t e =
      let m = matched img q in
      let r = some_terminal (meet (dom img t) m) (and_right (member m t) (leb 1 (meet (dom img t) m)) e) in
      let b = has-and (dom img t) m r.0 in
      let w = r.1 in
      record {
        matches = member-has m t (and_left (member m t) (leb 1 (meet (dom img t) m)) e);
        by = r.0;
        outranks = omega (arith, has-lt (dom img t) r.0);
        matches_too = omega (arith, has-lt m r.0);
      }

  outranked_is : (q t : ℕ) → Outranked img q t → outranked img (matched img q) t ≡ true
  unfolding outranked
  outranked_is q t o =
      let m = matched img q in
      and_both (member m t) (leb 1 (meet (dom img t) m)) (has-member m t o.matches)
      (terminal_some (meet (dom img t) m) o.by (omega (arith, has-and (dom img t) m o.by, o.outranks, o.matches_too)))

  pub decides_1 : (q : ℕ) → Decides (k1 img q) (K1 img q)
  unfolding k1
  decides_1 q = record {
    sound = λ e. record {
      rejected = λ t l h. outranked_by q t (sym (row e t l) ∙ has-member (rej img q) t h);
      outranked = λ t l o. member-has (rej img q) t (row e t l ∙ outranked_is q t o);
    };
    complete = λ k. all_true (terminals img) (λ t. same (member (rej img q) t) (outranked img (matched img q) t)) (λ t l.
        same_all (member (rej img q) t) (outranked img (matched img q) t)
        (λ e. outranked_is q t (k.rejected t l (member-has (rej img q) t e)))
        (λ e. has-member (rej img q) t (k.outranked t l (outranked_by q t e))));
  }
    where
      row : all_below (terminals img) (λ t. same (member (rej img q) t) (outranked img (matched img q) t)) ≡ true
          → (t : ℕ) → t < terminals img → member (rej img q) t ≡ outranked img (matched img q) t
      row e t l = same_is _ _ (all_each _ _ e t l)

  within_each : (q code : ℕ) → within img q code ≡ true → (p : ℕ) → code ≡ 1 + p → Subset (poss img p) (poss img q)
  unfolding within
  within_each q zero e p f = absurd (omega arith)
  within_each q (suc r) e p f = let z : r ≡ p = omega arith in (subset_is _ _).sound (rw z at e)

  within_is : (q code : ℕ) → ((p : ℕ) → code ≡ 1 + p → Subset (poss img p) (poss img q)) → within img q code ≡ true
  unfolding within
  within_is q zero h = refl
  within_is q (suc r) h = (subset_is _ _).complete (h r (omega arith))

  pub decides_2 : (q : ℕ) → Decides (k2 img q) (K2 img q)
  unfolding k2
  decides_2 q = record {
    sound = λ e. record {
      now = (subset_is _ _).sound (and_left (subset (matched img q) (poss img q)) (all_below (classes img) (λ c. within img q (move img q c))) e);
      later = λ c p l f. within_each q (move img q c) (all_each _ _ (and_right (subset (matched img q) (poss img q)) (all_below (classes img) (λ c. within img q (move img q c))) e) c l) p f;
    };
    complete = λ k. and_both (subset (matched img q) (poss img q)) (all_below (classes img) (λ c. within img q (move img q c))) ((subset_is _ _).complete k.now)
        (all_true _ _ (λ c l. within_is q (move img q c) (λ p f. k.later c p l f)));
  }

  pub decides_3 : (s q : ℕ) → Decides (k3 img s q) (K3 img s q)
  unfolding k3 settled is_group
  decides_3 s q =
      let both = meet (acc img q) (sought img s) in
      record {
        sound = λ e. record { grouped = λ f. let r = some_one _ _ (implies_gives (several both) (is_group img both) e f) in (r.0, r.1, eqb-true _ _ r.2) };
        complete = λ k. implies_all (several both) (is_group img both) (λ f. let r = k.grouped f in some_true _ _ r.0 r.1 (eq-eqb _ _ r.2));
      }

-- Those of the parser's tables, of a pack with at most 64 terminals.
module _ (img : List ℕ) (small : terminals img ≤ 64) where
  some : (n : ℕ) → (n ≡ 0 → ⊥) → 1 ≤ n
  some zero h = absurd (h refl)
  some (suc n) h = omega arith

  pub decides_4 : (v : ℕ) → Decides (k4 img v) (K4 img v)
  unfolding k4
  decides_4 v = record {
    sound = λ e. record {
      not_start = λ s x a z. absurd (omega (arith, leb-true 1 v (and_left (leb 1 v) (only_on img x v) (one e x s a))));
      one_symbol = λ s x r y a b. only_each img small y v (and_right (leb 1 v) (only_on img y v) (one e y r b)) s x a;
    };
    complete = λ k. all_true _ _ (λ x l. implies_all (enters img v x) (leb 1 v && only_on img x v) (λ f.
        let r = enters_by img small f in
        and_both (leb 1 v) (only_on img x v) (le-leb 1 v (some v (k.not_start _ _ r.1))) (only_is img small x v (λ s y a. k.one_symbol s y r.0 x a r.1))));
  }
    where
      one : all_below (symbols img) (λ x. implies (enters img v x) (leb 1 v && only_on img x v)) ≡ true → (x s : ℕ) → Edge img s x v → (leb 1 v && only_on img x v) ≡ true
      one e x s a = implies_gives (enters img v x) _ (all_each _ _ e x (edge_on img small a)) (enters_is img small a)

  pub reduces_by : (s p : ℕ) → reduces img s p ≡ true → Reduces img s p
  unfolding reduces
  reduces_by s p e = let r = some_one _ _ e in record { column = r.0; within = r.1; cell = eqb-true _ _ r.2 }

  pub reduces_is : (s p : ℕ) → Reduces img s p → reduces img s p ≡ true
  unfolding reduces
  reduces_is s p r = some_true _ _ r.column r.within (eq-eqb _ _ r.cell)

  -- One step back, and the end.
  module _ (s p : ℕ) (ls : s < states img) where
    step_each : (i : ℕ) → steps img s p i ≡ true → (u : ℕ) → Back img s i u → (1 ≤ u) × ((r x : ℕ) → Edge img r x u → x ≡ symbol img p (len img p - 1 - i))
    unfolding steps
    step_each i e u b =
        let x = symbol img p (len img p - 1 - i) in
        let r = implies_gives (reached img s i u) (leb 1 u && only_on img x u) (all_each _ _ e u (back_from img small ls b)) (back_reached img small s i u ls b) in
        (leb-true 1 u (and_left (leb 1 u) (only_on img x u) r), only_each img small x u (and_right (leb 1 u) (only_on img x u) r))

    step_is : (i : ℕ) → ((u : ℕ) → Back img s i u → (1 ≤ u) × ((r x : ℕ) → Edge img r x u → x ≡ symbol img p (len img p - 1 - i))) → steps img s p i ≡ true
    unfolding steps
    step_is i h =
        let x = symbol img p (len img p - 1 - i) in
        all_true _ _ (λ u l. implies_all (reached img s i u) (leb 1 u && only_on img x u) (λ e.
        let r = h u (reached_back img small s i u l e) in
        and_both (leb 1 u) (only_on img x u) (le-leb 1 u r.0) (only_is img small x u r.1)))

    end_each : ends img s p ≡ true → (u : ℕ) → Back img s (len img p) u → 1 ≤ goto img u (lhs img p)
    unfolding ends
    end_each e u b =
        leb-true 1 (goto img u (lhs img p))
        (implies_gives (reached img s (len img p) u) (leb 1 (goto img u (lhs img p))) (all_each _ _ e u (back_from img small ls b)) (back_reached img small s (len img p) u ls b))

    end_is : ((u : ℕ) → Back img s (len img p) u → 1 ≤ goto img u (lhs img p)) → ends img s p ≡ true
    unfolding ends
    end_is h =
        all_true _ _ (λ u l. implies_all (reached img s (len img p) u) (leb 1 (goto img u (lhs img p))) (λ e.
        le-leb 1 (goto img u (lhs img p)) (h u (reached_back img small s (len img p) u l e))))

    pub decides_5 : Decides (k5 img s p) (Reduces img s p → K5 img s p)
    unfolding k5
    decides_5 = record {
      sound = λ e r.
          let both = implies_gives (reduces img s p) (all_below (len img p) (steps img s p) && ends img s p) e (reduces_is s p r) in
          let st = all_each _ _ (and_left (all_below (len img p) (steps img s p)) (ends img s p) both) in
          let en = end_each (and_right (all_below (len img p) (steps img s p)) (ends img s p) both) in
          record {
            not_start = λ i u l b z. absurd (omega (arith, (step_each i (st i l) u b).0));
            on_symbol = λ i u r x l b a. (step_each i (st i l) u b).1 r x a;
            has_goto = λ u b z. absurd (omega (arith, en u b));
          };
      complete = λ k. implies_all (reduces img s p) (all_below (len img p) (steps img s p) && ends img s p) (λ e.
          let c : K5 img s p = k (reduces_by s p e) in
          and_both (all_below (len img p) (steps img s p)) (ends img s p)
          (all_true _ _ (λ i l. step_is i (λ u b. (some u (c.not_start i u l b), λ r x a. c.on_symbol i u r x l b a))))
          (end_is (λ u b. some (goto img u (lhs img p)) (c.has_goto u b))));
    }

  start_each : (s : ℕ) → from_start img s ≡ true → (r x : ℕ) → Edge img r x s → r ≡ 0
  unfolding from_start
  start_each s e r x a = eqb-true r 0 (implies_gives (leads img r s) (eqb r 0) (all_each _ _ e r (edge_from img small a)) (leads_is img small a))

  start_is : (s : ℕ) → ((r x : ℕ) → Edge img r x s → r ≡ 0) → from_start img s ≡ true
  unfolding from_start
  start_is s h = all_true _ _ (λ r l. implies_all (leads img r s) (eqb r 0) (λ e. let a = leads_by img small l e in eq-eqb r 0 (h r _ a.1)))

  pub decides_6 : (s : ℕ) → Decides (k6 img s) (act img s 0 ≡ 1 → K6 img s)
  unfolding k6
  decides_6 s = record {
    sound = λ e a.
        let all = implies_gives (eqb (act img s 0) 1) (leb 1 s && (only_on img start_symbol s && from_start img s)) e (eq-eqb _ _ a) in
        let rest = and_right (leb 1 s) (only_on img start_symbol s && from_start img s) all in
        record {
          not_start = λ z. absurd (omega (arith, leb-true 1 s (and_left (leb 1 s) (only_on img start_symbol s && from_start img s) all)));
          from_start = start_each s (and_right (only_on img start_symbol s) (from_start img s) rest);
          on_start_symbol = only_each img small start_symbol s (and_left (only_on img start_symbol s) (from_start img s) rest);
        };
    complete = λ k. implies_all (eqb (act img s 0) 1) (leb 1 s && (only_on img start_symbol s && from_start img s)) (λ e.
        let c : K6 img s = k (eqb-true _ _ e) in
        and_both (leb 1 s) (only_on img start_symbol s && from_start img s) (le-leb 1 s (some s c.not_start))
        (and_both (only_on img start_symbol s) (from_start img s) (only_is img small start_symbol s c.on_start_symbol) (start_is s c.from_start)));
  }

-- Each test decides its condition.
pub decides : (c : Condition) (img : List ℕ) → shape img ≡ Good → (i j : ℕ) → i < firsts c img → j < seconds c img → Decides (test c img i j) (Meets c img i j)
unfolding test Meets firsts seconds
decides c1 img good i j li lj = decides_1 img i
decides c2 img good i j li lj = decides_2 img i
decides c3 img good i j li lj = decides_3 img i j
decides c4 img good i j li lj = decides_4 img (good_laid img good).sized.t_most i
decides c5 img good i j li lj = decides_5 img (good_laid img good).sized.t_most i j li
decides c6 img good i j li lj = decides_6 img (good_laid img good).sized.t_most i
