-- What a scan of the parse gives, for a pack that passes K1 to K3: a match for a parse state stands for one terminal, which is a right leaf or
-- a piece of layout; and where there is none, why. Assumes nothing.
use mathlib.Core.Path.{◌≡◌, refl, sym, ◌∙◌}
use mathlib.Core.Bool.{Bool, true, false}
use mathlib.Core.List.{List}
use Prim.Native.Nat.{ℕ, zero, suc, ◌+◌, ◌<◌, ◌≤◌, ◌^◌}
use native.Mathlib.Omega.{arith}
use lib.Dec.{eqb, leb, ltb}
use lib.ListN.{length, drop}
use lib.Pow.{pow_mono}
use lib.Bits.{bit_and, and_le_l}
use borrow.Author.Tests.{eqb-true, eqb-false, leb-false, ltb-true, ltb-false}
use Rattle.sets.specs.Sets.{has, meet, several, lowest, count}
use Rattle.sets.proofs.Laws.{has-lt, has-and, has-or, lowest_lt, lowest_in, lowest_below, at_most_one}
use Rattle.pack.specs.Image.{terminals, states, scan_states, groups, layout, acc, group_set, chosen, valid_set, all_but_end_and_layout}
use Rattle.shape.proofs.Good.{good_laid, good_acc}
use Rattle.shape.proofs.GoodParser.{good_group}
use Rattle.conditions.specs.Conditions.{Passes, sought}
use Rattle.scan.specs.Scan.{Stop}
use Rattle.scan.specs.Scan.{scan}
use Rattle.scan.specs.Token.{chosen_in, terminal_of}
use Rattle.scan.specs.Matching.{Accepts, Last}
use Rattle.scan.proofs.Matching.{same_state, led, some_bytes}
use Rattle.scan.proofs.Longest.{match_is_last, no_match_rejects, accepted_alone}
use Rattle.look.specs.Look.{sought_set}
use Rattle.parse.specs.Leaf.{part}
use Rattle.promise.specs.Cover.{Chosen, alone, grouped, NoMatch, RightMatch, RightLeaf, Blank}
use Rattle.promise.specs.Refusal.{Unexpected, instead}
use Rattle.promise.proofs.Matching.{has_below, same_accepted, with_end, without_end}
use Rattle.promise.proofs.Others.{outdone_further}

-- The first group of a set, or none.
module _ (img : List ℕ) (set : ℕ) where
  data Found (n g : ℕ) : Type 0 where
    lacking : ((h : ℕ) → g ≤ h → h < g + n → group_set img h ≡ set → ⊥) → Found n g
    found : (h : ℕ) → h < g + n → group_set img h ≡ set → chosen_in img set n g ≡ suc (chosen img h) → Found n g

  find : (n g : ℕ) → Found n g
  unfolding chosen_in
  find zero g = lacking (λ h a b. absurd (omega arith))
  find (suc n) g = go (find n (g + 1)) (eqb (group_set img g) set) refl
    where
      go : Found n (g + 1) → (x : Bool) → eqb (group_set img g) set ≡ x → Found (suc n) g
      go i true e = found g (omega arith) (eqb-true _ _ e) (simp (chosen_in, e))
      go (found h l f c) false e = found h (omega arith) f (simp (chosen_in, e) c)
      go (lacking f) false e = lacking (λ h a b c. other h a b c (eqb h g) refl)
        where
          other : (h : ℕ) → g ≤ h → h < g + suc n → group_set img h ≡ set → (x : Bool) → eqb h g ≡ x → ⊥
          other h a b c true d = eqb-false _ _ e (rw (eqb-true h g d) at c)
          other h a b c false d = let z : (h ≡ g → ⊥) = eqb-false h g d in f h (omega arith) (omega arith) c

module _ (img : List ℕ) (passes : Passes img) where
  accepts_below : (q v : ℕ) → q < scan_states img → bit_and (acc img q) v < 2 ^ 64
  accepts_below q v lq =
      let l : terminals img ≤ 64 = omega (arith, good_laid img passes.good) in
      omega (arith, and_le_l (acc img q) v, (good_acc img passes.good q lq).0, pow_mono l)

  -- What is accepted of V(s) and layout in a scan state stands for one terminal, which is in it.
  record Named (set : ℕ) : Type 0 where
    terminal : ℕ
    name : terminal_of img set ≡ suc terminal
    inside : has set terminal ≡ 1
    one : Chosen img set terminal

  named : (s q : ℕ) → s < states img → q < scan_states img → (meet (acc img q) (sought img s) ≡ 0 → ⊥) → Named (meet (acc img q) (sought img s))
  unfolding terminal_of several
  named s q ls lq ne = go (leb 2 (count set)) refl
    where
      set : ℕ
      set = meet (acc img q) (sought img s)

      small : set < 2 ^ 64
      small = accepts_below q (sought img s) lq

      go : (x : Bool) → leb 2 (count set) ≡ x → Named set
      go false e =
          let l = lowest_lt 64 set small ne in
          let h = lowest_in 64 set l in
          record {
            terminal = lowest set;
            name = simp (terminal_of, several, e);
            inside = h;
            one = alone (λ t k. at_most_one 64 set t (lowest set) (omega (arith, leb-false 2 (count set) e)) (has_below t small k) l k h);
          }
      go true e = group ((passes.k3 s q ls lq).grouped e) (find img set (groups img) 0)
        where
          group : (g : ℕ) × (g < groups img) × (group_set img g ≡ set) → Found img set (groups img) 0 → Named set
          group k (lacking f) = absurd (f k.0 (omega arith) (omega (arith, k.1)) k.2)
          group k (found h l f c) =
              let lh : h < groups img = omega arith in
              record {
                terminal = chosen img h;
                name = simp (terminal_of, several, e) c;
                inside = rw f at (good_group img passes.good h lh);
                one = grouped h lh f refl;
              }

  -- A set that was matched: it is what is accepted of v in the scan state of the last place.
  module _ (text : List ℕ) (allowance place v : ℕ) where
    abbrev stop : Stop
    stop = scan img v allowance (drop place text)

    module _ (spared : stop.spent ≡ false) where
      -- No match.
      pub no_match : stop.set ≡ 0 → NoMatch img (drop place text) v
      no_match e = record { only_rejects = λ n q l. no_match_rejects img passes.good passes.k2 v allowance (drop place text) spared e n q l }

      -- A match: the last place, and the lowest terminal that is accepted there.
      record Lowest : Type 0 where
        q : ℕ
        last : Last img (drop place text) v stop.length q
        all : stop.set ≡ meet (acc img q) v
        inside : has v (lowest stop.set) ≡ 1
        accepted : Accepts img (part text place stop.length) (lowest stop.set)
        least : (t : ℕ) → has v t ≡ 1 → Accepts img (part text place stop.length) t → lowest stop.set ≤ t

      matches : (stop.set ≡ 0 → ⊥) → Lowest
      matches some = go (match_is_last img passes.good passes.k2 v allowance (drop place text) spared some)
        where
          go : (q : ℕ) × Last img (drop place text) v stop.length q × (stop.set ≡ meet (acc img q) v) → Lowest
          go m =
              let q = m.0 in
              let t = lowest stop.set in
              let l : stop.set < 2 ^ 64 = rw m.2 (accepts_below q v (led img passes.good m.1.leads)) in
              let h = rw m.2 at (lowest_in 64 stop.set (lowest_lt 64 stop.set l some)) in
              let b = has-and (acc img q) v (lowest (meet (acc img q) v)) in
              record {
                q = q;
                last = m.1;
                all = m.2;
                inside = rw m.2 (omega (arith, h, b, has-lt (acc img q) (lowest (meet (acc img q) v)), has-lt v (lowest (meet (acc img q) v))));
                accepted = record {
                  state = q;
                  leads = m.1.leads;
                  here = rw m.2 (omega (arith, h, b, has-lt (acc img q) (lowest (meet (acc img q) v)), has-lt v (lowest (meet (acc img q) v))));
                };
                least = λ u d a. below u (rw m.2 (omega (arith, has-and (acc img q) v u, d, rw (same_state a.leads m.1.leads) at a.here))) (ltb u t) refl;
              }
            where
              below : (u : ℕ) → has stop.set u ≡ 1 → (x : Bool) → ltb u (lowest stop.set) ≡ x → lowest stop.set ≤ u
              below u h true e = absurd (omega (arith, h, lowest_below 64 stop.set u (ltb-true _ _ e)))
              below u h false e = ltb-false _ _ e

  module _ (text : List ℕ) (allowance place : ℕ) where
    -- A match of a scan in state s: never code 9, and it is right.
    pub record Taken (s : ℕ) (stop : Stop) : Type 0 where
      pub terminal : ℕ
      pub name : terminal_of img stop.set ≡ suc terminal
      pub right : RightMatch img text terminal place stop.length s

    pub taken : (s : ℕ) → s < states img → (scan img (sought_set img s) allowance (drop place text)).spent ≡ false
        → ((scan img (sought_set img s) allowance (drop place text)).set ≡ 0 → ⊥)
        → Taken s (scan img (sought_set img s) allowance (drop place text))
    taken s ls e ne = answer (named s q ls lq (λ z. ne (same ∙ z)))
      where
        m : Lowest text allowance place (sought_set img s) e
        m = matches text allowance place (sought_set img s) e ne

        q : ℕ
        q = m.q

        lq : q < scan_states img
        lq = led img passes.good m.last.leads

        same : (scan img (sought_set img s) allowance (drop place text)).set ≡ meet (acc img q) (sought img s)
        same = m.all ∙ same_accepted img passes.good q (sought img s) lq

        answer : Named (meet (acc img q) (sought img s)) → Taken s (scan img (sought_set img s) allowance (drop place text))
        answer n =
            let t = n.terminal in
            let a : has (acc img q) t ≡ 1 = omega (arith, n.inside, has-and (acc img q) (sought img s) t, has-lt (acc img q) t, has-lt (sought img s) t) in
            record {
              terminal = t;
              name = rw same n.name;
              right = record {
                is_state = ls;
                some = some_bytes passes.good m.last;
                q = q;
                last = with_end img passes.good m.last;
                is_sought = omega (arith, n.inside, has-and (acc img q) (sought img s) t, has-lt (acc img q) t, has-lt (sought img s) t);
                accepted = record { state = q; leads = m.last.leads; here = a };
                not_outranked = λ u d k.
                    accepted_alone img passes.good q lq (passes.k1 q lq) t u (has_below t (good_acc img passes.good q lq).0 a) a d
                    (rw (same_state k.leads m.last.leads) at k.here);
                one = n.one;
              };
            }

    -- What is right is layout, or else a leaf.
    pub a_blank : {t size s : ℕ} → RightMatch img text t place size s → has (layout img) t ≡ 1 → Blank img text s place size
    a_blank {t} r h = record { terminal = t; right = r; is_layout = h }

    pub a_leaf : {t size s : ℕ} → RightMatch img text t place size s → has (layout img) t ≡ 0 → RightLeaf img text t place size s
    a_leaf {t} {size} {s} r h =
        record {
          right = r;
          valid = omega (arith, h, r.is_sought, has-or (valid_set img s) (layout img) t);
          not_end = λ z.
              let b = rw z at r.accepted.here in
              omega (arith, b, (good_acc img passes.good _ (led img passes.good r.accepted.leads)).1);
          not_layout = h;
        }

    -- The scan without a match.
    pub none_sought : (s : ℕ) → (scan img (sought_set img s) allowance (drop place text)).spent ≡ false
        → (scan img (sought_set img s) allowance (drop place text)).set ≡ 0 → NoMatch img (drop place text) (sought img s)
    none_sought s e z =
        record {
          only_rejects = λ n q l.
              sym (same_accepted img passes.good q (sought img s) (led img passes.good l.leads))
              ∙ (no_match text allowance place (sought_set img s) e z).only_rejects n q (without_end img passes.good l);
        }

    -- A match of the second scan, where the first had none.
    pub other : (s : ℕ) → place < length text → NoMatch img (drop place text) (sought img s)
        → (e : (scan img (all_but_end_and_layout img) allowance (drop place text)).spent ≡ false)
        → ((scan img (all_but_end_and_layout img) allowance (drop place text)).set ≡ 0 → ⊥)
        → Unexpected img text s place (scan img (all_but_end_and_layout img) allowance (drop place text)).length (lowest (scan img (all_but_end_and_layout img) allowance (drop place text)).set)
    other s l none e ne =
        let m = matches text allowance place (all_but_end_and_layout img) e ne in
        let a = rw (same_state m.accepted.leads m.last.leads) at m.accepted.here in
        instead _ _ m.q l none m.last (λ v. outdone_further img passes text s place none _ m.last.within m.last.leads a v) m.inside m.accepted m.least
