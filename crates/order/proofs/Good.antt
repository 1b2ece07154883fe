-- What a pack of good shape gives: each fact that the layers above lean on, by its name. Assumes nothing.
use mathlib.Core.Path.{◌≡◌, refl}
use mathlib.Core.Bool.{Bool, true, false}
use mathlib.Core.List.{List}
use Prim.Native.Nat.{ℕ, zero, suc, ◌+◌, ◌-◌, ◌<◌, ◌≤◌, ◌^◌}
use native.Mathlib.Omega.{arith}
use lib.Dec.{eqb, leb}
use borrow.Author.Tests.{ne_eqb, leb-true, ltb-true, eqb-true}
use Rattle.sets.specs.Sets.{has, lacks, is_empty, meet}
use Rattle.numbers.specs.Verdicts.{Good}
use Rattle.pack.specs.Image.{terminals, scan_states, classes, ranges, largest_image, greatest_byte, layout, move, lo, hi, range_class, acc, rej, poss, class_in, class_of, needed}
use Rattle.order.specs.Shape.{each, head_rules, parser_rules, scanner_rules, layout_rule, cell_rule, move_rules, range_rule, scan_rule, shape}
use Rattle.rules.specs.Rules.{fits, above_previous, empty_at_start}
use Rattle.pack.specs.Laid.{Sized, Laid}
use Rattle.order.proofs.Laws.{both, rule_good, and_then_good, each_at, head_laid}

module _ (img : List ℕ) (good : shape img ≡ Good) where
  -- The three parts of the test are good.
  pub good_parts : (head_rules img ≡ Good) × (parser_rules img ≡ Good) × (scanner_rules img ≡ Good)
  unfolding shape
  good_parts =
      let a = and_then_good _ _ good in
      let b = and_then_good _ _ a.1 in
      (a.0, b.0, b.1)

  -- The sizes are within their limits, and the image is as long as they need.
  pub good_laid : Laid img
  good_laid = head_laid img good_parts.0

  scanner : (each (range_rule img) (ranges img) 0 ≡ Good) × (move_rules img ≡ Good) × (each (scan_rule img) (scan_states img) 0 ≡ Good)
  unfolding scanner_rules
  scanner =
      let a = and_then_good _ _ good_parts.2 in
      let b = and_then_good _ _ a.1 in
      (a.0, b.0, (and_then_good _ _ b.1).0)

  -- Every move leads to a scan state, or nowhere.
  pub good_move : (q c : ℕ) → q < scan_states img → c < classes img → move img q c ≤ scan_states img
  unfolding move_rules cell_rule move
  good_move q c lq lc = leb-true _ _ (rule_good _ _ (each_at _ _ (each_at _ _ scanner.1 q lq) c lc))

  -- The class of every byte is one of the C.
  pub range_class_lem : (r : ℕ) → r < ranges img → range_class img r < classes img
  unfolding range_rule
  range_class_lem r l =
      let b = and_then_good _ _ (each_at _ _ scanner.0 r l) in
      ltb-true _ _ (rule_good _ _ (and_then_good _ _ b.1).1)

  -- Each range ends where it begins or later, within the bytes, and above the one before it.
  range_ends : (r : ℕ) → r < ranges img → (leb (lo img r) (hi img r) ≡ true) × (leb (hi img r) greatest_byte ≡ true)
  unfolding range_rule
  range_ends r l =
      let b = and_then_good _ _ (each_at _ _ scanner.0 r l) in
      both (leb (lo img r) (hi img r)) (leb (hi img r) greatest_byte) (rule_good _ _ (and_then_good _ _ b.1).0)

  pub good_range : (r : ℕ) → r < ranges img → lo img r ≤ hi img r
  good_range r l = leb-true _ _ (range_ends r l).0

  pub good_byte : (r : ℕ) → r < ranges img → hi img r ≤ greatest_byte
  good_byte r l = leb-true _ _ (range_ends r l).1

  pub good_above : (r : ℕ) → r + 1 < ranges img → hi img r < lo img (r + 1)
  unfolding range_rule above_previous
  good_above r l =
      let b = rule_good (above_previous img (r + 1)) _ (and_then_good _ _ (each_at _ _ scanner.0 (r + 1) l)).0 in
      let n : eqb (r + 1) 0 ≡ false = ne_eqb (r + 1) 0 (λ z. omega arith) in
      let m : r + 1 - 1 ≡ r = omega arith in
      ltb-true _ _ (rw m at (simp (above_previous, n) at b))

  class_below : (b n r : ℕ) → r + n ≤ ranges img → class_in img b n r < classes img
  unfolding class_in
  class_below b zero r h = omega (arith, good_laid)
  class_below b (suc n) r h = go (leb (lo img r) b) refl (leb b (hi img r)) refl (class_below b n (r + 1) (omega arith))
    where
      go : (x : Bool) → leb (lo img r) b ≡ x → (y : Bool) → leb b (hi img r) ≡ y → class_in img b n (r + 1) < classes img → class_in img b (suc n) r < classes img
      go false e y f ih = simp (class_in, e) ih
      go true e false f ih = simp (class_in, e, f) ih
      go true e true f ih = simp (class_in, e, f) (range_class_lem r (omega arith))

  pub good_class : (b : ℕ) → class_of img b < classes img
  good_class b = class_below b (ranges img) 0 (omega arith)

  -- The sets of a scan state are within the terminals 1..T-1; acc and rej are empty in scan state 0 and share nothing.
  pub fits_below : (set : ℕ) → fits img set ≡ true → (set < 2 ^ terminals img) × (has set 0 ≡ 0)
  unfolding fits lacks
  fits_below set e = let b = both _ _ e in (ltb-true _ _ b.0, eqb-true _ _ b.1)

  shares_nothing : (set : ℕ) → is_empty set ≡ true → set ≡ 0
  unfolding is_empty
  shares_nothing set e = eqb-true _ _ e

  scan_row : (q : ℕ) → q < scan_states img → scan_rule img q ≡ Good
  scan_row q l = each_at _ _ scanner.2 q l

  pub good_acc : (q : ℕ) → q < scan_states img → (acc img q < 2 ^ terminals img) × (has (acc img q) 0 ≡ 0)
  unfolding scan_rule
  good_acc q l = fits_below _ (both _ _ (rule_good _ _ (and_then_good _ _ (scan_row q l)).0)).0

  pub good_rej : (q : ℕ) → q < scan_states img → (rej img q < 2 ^ terminals img) × (has (rej img q) 0 ≡ 0)
  unfolding scan_rule
  good_rej q l = fits_below _ (both _ _ (rule_good _ _ (and_then_good _ _ (and_then_good _ _ (scan_row q l)).1).0)).0

  pub good_disjoint : (q : ℕ) → q < scan_states img → meet (acc img q) (rej img q) ≡ 0
  unfolding scan_rule
  good_disjoint q l =
      let b = both (fits img (rej img q)) _ (rule_good _ _ (and_then_good _ _ (and_then_good _ _ (scan_row q l)).1).0) in
      shares_nothing _ (both (empty_at_start q (rej img q)) _ b.1).1

  pub good_poss : (q : ℕ) → q < scan_states img → (poss img q < 2 ^ terminals img) × (has (poss img q) 0 ≡ 0)
  unfolding scan_rule
  good_poss q l = fits_below _ (rule_good _ _ (and_then_good _ _ (and_then_good _ _ (scan_row q l)).1).1)

  start_empty : (set : ℕ) → empty_at_start 0 set ≡ true → set ≡ 0
  unfolding empty_at_start is_empty
  start_empty set e = eqb-true _ _ e

  pub good_start : (acc img 0 ≡ 0) × (rej img 0 ≡ 0)
  unfolding scan_rule
  good_start =
      let r = and_then_good _ _ (scan_row 0 (omega (arith, good_laid))) in
      let a = both (fits img (acc img 0)) _ (rule_good _ _ r.0) in
      let b = both (fits img (rej img 0)) _ (rule_good _ _ (and_then_good _ _ r.1).0) in
      (start_empty _ a.1, start_empty _ (both _ (is_empty (meet (acc img 0) (rej img 0))) b.1).0)

  pub good_layout : (layout img < 2 ^ terminals img) × (has (layout img) 0 ≡ 0)
  unfolding parser_rules layout_rule
  good_layout = fits_below _ (rule_good _ _ (and_then_good _ _ good_parts.1).0)

-- No image is larger than the largest.
pub largest_image_lem : (img : List ℕ) → Sized img → needed img ≤ largest_image
largest_image_lem img s = omega arith
