-- Laws of the functions that find the next token: one for each way out. Assumes nothing.
use mathlib.Core.Path.{◌≡◌, refl, sym, ap, ◌∙◌}
use mathlib.Core.Bool.{Bool, true, false}
use mathlib.Core.List.{List}
use Prim.Native.Nat.{ℕ, zero, suc, ◌+◌, ◌-◌, ◌^◌, ◌<◌, ◌≤◌}
use native.Mathlib.Omega.{arith}
use lib.Dec.{eqb, leb}
use lib.ListN.{length, get_or, drop, set, length-set, length-drop}
use lib.Seq.{get_or-set_same, get_or-set_other}
use lib.Pow.{pow_pos}
use lib.Bits.{or_lt}
use borrow.Author.Tests.{eq-eqb, ne_eqb, le-leb, lt-leb, leb-true, leb-false, eqb-true, eqb-false}
use Rattle.sets.specs.Sets.{has, member, is_empty, lowest}
use Rattle.sets.proofs.Laws.{has_above}
use Rattle.numbers.specs.Verdicts.{Good}
use Rattle.pack.specs.Image.{terminals, layout, all_but_end_and_layout, valid_set}
use Rattle.shape.specs.Shape.{shape}
use Rattle.pack.proofs.Valid.{valid_lt}
use Rattle.shape.proofs.Good.{good_layout}
use Rattle.conditions.proofs.TestLaws.{and_left}
use Rattle.std.specs.Prelude.{Option, Result, Ok, Err}
use Rattle.scan.specs.declared.Matched.{Matched}
use Rattle.scan.specs.declared.UsedUp.{UsedUp}
use Rattle.scan.specs.declared.Found.{Found}
use Rattle.scan.specs.Scan.{Stop, scan}
use Rattle.scan.specs.Found.{stop_of}
use Rattle.conditions.specs.Conditions.{Subset}
use Rattle.scan.specs.Token.{terminal_of}
use Rattle.scan.proofs.Theory.{scan_stops}
use Rattle.look.specs.declared.Spot.{Spot}
use Rattle.look.specs.Look.{Sought, Looked, seek, scanned, past, refused, found, sought_set, rescan, choose, piece, is_layout, look_on, look}
use Rattle.look.specs.declared.ParseError.{ParseError}
use Rattle.look.specs.declared.ParseError.TheVariants.{NoTerminal, Unexpected, NoGroup, Stuck, TreeFull, StackFull, AllowanceUsedUp}
use Rattle.look.specs.Errors.{error_code}
use Rattle.look.specs.Next.{sought_of}
use Rattle.token.specs.Terms.{Terms}
use Rattle.look.specs.Inner.{Known, Within, SoughtWithin, LookedWithin}

-- The row of sets, with one more of them.
pub known_more : (img known : List ℕ) (s v : ℕ) → Known img known → v ≡ sought_set img s → s < length known → Known img (set known s v)
known_more img known s v k e l = record { size = simp length-set k.size; each = λ i h. go i (eqb i s) refl h }
  where
    go : (i : ℕ) (b : Bool) → eqb i s ≡ b → (get_or (set known s v) i 0 ≡ 0 → ⊥) → get_or (set known s v) i 0 ≡ sought_set img i
    go i true x h = let z : i ≡ s = eqb-true _ _ x in rw z (get_or-set_same known s v 0 l ∙ e)
    go i false x h =
        let o = get_or-set_other known s i v 0 (eqb-false _ _ x) in
        o ∙ k.each i (λ z. h (o ∙ z))

-- The set that is scanned for has no bit T or above.
pub sought_lt : (img : List ℕ) (s : ℕ) → shape img ≡ Good → sought_set img s < 2 ^ terminals img
sought_lt img s good = omega (arith, or_lt (terminals img) (valid_set img s) (layout img) (valid_lt img s) (good_layout img good).0)

-- A set below 2 ^ T, or a part of it, has terminals only.
terms_of : (img : List ℕ) (x v : ℕ) → v < 2 ^ terminals img → Subset x v → Terms img x
terms_of img x v l p = record { each = λ t e. go t (leb (terminals img) t) refl e }
  where
    go : (t : ℕ) (b : Bool) → leb (terminals img) t ≡ b → has x t ≡ 1 → t < terminals img
    go t true y e = absurd (omega (arith, p.each t e, has_above t l (leb-true _ _ y)))
    go t false y e = leb-false _ _ y

-- One scan from a spot.
sought_stop : (r : Result (Option Matched) UsedUp) (n : ℕ) (at : Spot)
    → sought_of r (scanned n at)
    ≡ record {
      spent = (stop_of (record { matched = r; moves = n })).spent;
      set = (stop_of (record { matched = r; moves = n })).set;
      length = (stop_of (record { matched = r; moves = n })).length;
      at = scanned (stop_of (record { matched = r; moves = n })).moves at;
    }
sought_stop (Ok kept) n at = refl
sought_stop (Err e) n at = refl

stop_moves : (r : Result (Option Matched) UsedUp) (n : ℕ) → (stop_of (record { matched = r; moves = n })).moves ≡ n
stop_moves (Ok kept) n = refl
stop_moves (Err e) n = refl

module _ (img text : List ℕ) (allowance v : ℕ) (at : Spot) (f : Found) {rest : List ℕ} (er : rest ≡ drop at.place text)
    (es : stop_of f ≡ scan img v (allowance - at.moves) rest) where
  pub seek_same : sought_of f.matched (scanned f.moves at) ≡ seek img text allowance v at
  unfolding seek
  seek_same = sought_stop f.matched f.moves at ∙ simp (seek, ← er, ← es)

  pub seek_moves : Within text allowance at → at.moves + f.moves ≤ allowance
  seek_moves w =
      omega (
        arith,
        w.moves,
        (scan_stops img v (allowance - at.moves) rest).moves_allowed,
        ap (λ (s : Stop). s.moves) es,
        stop_moves f.matched f.moves,
      )

  pub seek_within : Within text allowance at → v < 2 ^ terminals img → SoughtWithin img text allowance (sought_of f.matched (scanned f.moves at))
  seek_within w l =
      let q = scan_stops img v (allowance - at.moves) rest in
      let n : length rest ≡ length text - at.place = ap length er ∙ length-drop at.place text in
      rw (sought_stop f.matched f.moves at, es)
      (record {
        place = omega (arith, w.place, q.within, n);
        moves = omega (arith, w.moves, q.moves_allowed);
        some = q.some;
        terms = terms_of img _ v l q.part;
      })

-- The token of a match, or none.
pub choose_none : (img : List ℕ) (set size : ℕ) (at : Spot) → 0 ≡ terminal_of img set → refused 9 size 0 at ≡ choose img set size at
unfolding choose
choose_none img set size at e = simp (choose, ← e)

pub choose_some : (img : List ℕ) (set size t : ℕ) (at : Spot) → suc t ≡ terminal_of img set → found size t at ≡ choose img set size at
unfolding choose
choose_some img set size t at e = simp (choose, ← e)

-- What was found lies within the text and the allowance.
module _ (img text : List ℕ) (allowance : ℕ) (f : Sought) (w : SoughtWithin img text allowance f) where
  pub within_none : {code : ℕ} → 1 ≤ terminals img → LookedWithin img text allowance (refused code 0 0 f.at)
  within_none l = record { place = omega (arith, w.place); moves = w.moves; terminal = l }

  pub within_some : {code t : ℕ} → t < terminals img → LookedWithin img text allowance (refused code f.length t f.at)
  within_some l = record { place = w.place; moves = w.moves; terminal = l }

  pub within_chosen : {l : Looked} → (l.at ≡ f.at) × ((l.length ≡ f.length) × (l.terminal < terminals img)) → LookedWithin img text allowance l
  within_chosen {l} q =
      let p : l.at.place ≡ f.at.place = ap (λ (x : Spot). x.place) q.0 in
      let m : l.at.moves ≡ f.at.moves = ap (λ (x : Spot). x.moves) q.0 in
      record { place = omega (arith, p, q.1.0, w.place); moves = omega (arith, m, w.moves); terminal = q.1.1 }

pub within_end : (img text : List ℕ) (allowance : ℕ) (at : Spot) → Within text allowance at → 1 ≤ terminals img → LookedWithin img text allowance (refused 0 0 0 at)
within_end img text allowance at w l = record { place = omega (arith, w.place); moves = w.moves; terminal = l }

pub spot_within : (img text : List ℕ) (allowance : ℕ) (f : Sought) → SoughtWithin img text allowance f → Within text allowance f.at
spot_within img text allowance f w = record { place = omega (arith, w.place); moves = w.moves }

-- The scan for code 8.
pub rescan-lt : (img : List ℕ) → 1 ≤ terminals img → all_but_end_and_layout img < 2 ^ terminals img
rescan-lt img l = omega (arith, pow_pos (terminals img))

module _ (img text : List ℕ) (allowance : ℕ) (at : Spot) {v : ℕ} {f : Sought} (ev : v ≡ all_but_end_and_layout img) (e : f ≡ seek img text allowance v at) where
  sought : f ≡ seek img text allowance (all_but_end_and_layout img) at
  sought = e ∙ ap (λ (x : ℕ). seek img text allowance x at) ev

  pub rescan_spent : f.spent ≡ true → refused 13 0 0 f.at ≡ rescan img text allowance at
  unfolding rescan
  rescan_spent s = simp (rescan, ← sought, s)

  pub rescan_none : f.spent ≡ false → f.set ≡ 0 → refused 7 0 0 f.at ≡ rescan img text allowance at
  unfolding rescan is_empty
  rescan_none s n = simp (rescan, is_empty, ← sought, s, eq-eqb _ _ n)

  pub rescan_some : {t : ℕ} → f.spent ≡ false → (f.set ≡ 0 → ⊥) → t ≡ lowest f.set → refused 8 f.length t f.at ≡ rescan img text allowance at
  unfolding rescan is_empty
  rescan_some s n et = simp (rescan, is_empty, ← sought, s, ne_eqb _ _ n, ← et)

-- One scan for the set of a state, and what it comes to.
module _ (img text : List ℕ) (allowance s : ℕ) (at : Spot) {v : ℕ} {f : Sought} (ev : v ≡ sought_set img s) (e : f ≡ seek img text allowance v at) where
  looked_for : f ≡ seek img text allowance (sought_set img s) at
  looked_for = e ∙ ap (λ (x : ℕ). seek img text allowance x at) ev

  pub piece_spent : f.spent ≡ true → refused 13 0 0 f.at ≡ piece img text allowance s at
  unfolding piece
  piece_spent t = simp (piece, ← looked_for, t)

  pub piece_none : f.spent ≡ false → f.set ≡ 0 → rescan img text allowance f.at ≡ piece img text allowance s at
  unfolding piece is_empty
  piece_none t n = simp (piece, is_empty, ← looked_for, t, eq-eqb _ _ n)

  pub piece_some : f.spent ≡ false → (f.set ≡ 0 → ⊥) → choose img f.set f.length f.at ≡ piece img text allowance s at
  unfolding piece is_empty
  piece_some t n = simp (piece, is_empty, ← looked_for, t, ne_eqb _ _ n)

-- No error has the code of a token.
pub error_some : (e : ParseError) → error_code e ≡ 0 → ⊥
error_some NoTerminal z = omega arith
error_some (Unexpected size terminal) z = omega arith
error_some (NoGroup size) z = omega arith
error_some Stuck z = omega arith
error_some TreeFull z = omega arith
error_some StackFull z = omega arith
error_some AllowanceUsedUp z = omega arith

-- A layout terminal, or not.
module _ (img : List ℕ) (l : Looked) where
  pub layout_found : {v : ℕ} {b : Bool} → l.code ≡ 0 → v ≡ layout img → b ≡ member v l.terminal → b ≡ is_layout img l
  unfolding is_layout
  layout_found z ev eb = simp (is_layout, eq-eqb _ _ z, ← ev) eb

  pub layout_not : (l.code ≡ 0 → ⊥) → false ≡ is_layout img l
  unfolding is_layout
  layout_not n = simp (is_layout, ne_eqb _ _ n)

  layout_done : is_layout img l ≡ true → l.code ≡ 0
  unfolding is_layout
  layout_done e = eqb-true _ _ (and_left _ _ e)

-- A piece of layout takes at least a byte.
module _ (img text : List ℕ) (allowance : ℕ) where
  same_place : (v : ℕ) (at : Spot) → (seek img text allowance v at).at.place ≡ at.place
  unfolding seek
  same_place v at = refl

  some_byte : (v : ℕ) (at : Spot) → ((seek img text allowance v at).set ≡ 0 → ⊥) → 1 ≤ (seek img text allowance v at).length
  unfolding seek
  some_byte v at n = (scan_stops img v (allowance - at.moves) (drop at.place text)).some n

  rescan_refuses : (at : Spot) → (rescan img text allowance at).code ≡ 0 → ⊥
  rescan_refuses at = let f = seek img text allowance (all_but_end_and_layout img) at in go f.spent refl (eqb f.set 0) refl
    where
      go : (x : Bool) → (seek img text allowance (all_but_end_and_layout img) at).spent ≡ x → (y : Bool) → eqb (seek img text allowance (all_but_end_and_layout img) at).set 0 ≡ y
          → (rescan img text allowance at).code ≡ 0 → ⊥
      go true e y f = rw (← rescan_spent img text allowance at refl refl e) (λ z. omega arith)
      go false e true f = rw (← rescan_none img text allowance at refl refl e (eqb-true _ _ f)) (λ z. omega arith)
      go false e false f = rw (← rescan_some img text allowance at refl refl e (eqb-false _ _ f) refl) (λ z. omega arith)

  choose_size : (set size : ℕ) (at : Spot) → (choose img set size at).at.place + (choose img set size at).length ≡ at.place + size
  choose_size set size at = go (terminal_of img set) refl
    where
      go : (t : ℕ) → terminal_of img set ≡ t → (choose img set size at).at.place + (choose img set size at).length ≡ at.place + size
      go zero e = rw (← choose_none img set size at (sym e)) refl
      go (suc t) e = rw (← choose_some img set size t at (sym e)) refl

  pub layout_size : (s : ℕ) (at : Spot) → is_layout img (piece img text allowance s at) ≡ true
      → at.place < (piece img text allowance s at).at.place + (piece img text allowance s at).length
  layout_size s at i = let f = seek img text allowance (sought_set img s) at in go f.spent refl (eqb f.set 0) refl (layout_done img _ i)
    where
      go : (x : Bool) → (seek img text allowance (sought_set img s) at).spent ≡ x → (y : Bool) → eqb (seek img text allowance (sought_set img s) at).set 0 ≡ y
          → (piece img text allowance s at).code ≡ 0 → at.place < (piece img text allowance s at).at.place + (piece img text allowance s at).length
      go true e y f = rw (← piece_spent img text allowance s at refl refl e) (λ z. absurd (omega arith))
      go false e true f = rw (← piece_none img text allowance s at refl refl e (eqb-true _ _ f)) (λ z. absurd (rescan_refuses _ z))
      go false e false f =
          let k = seek img text allowance (sought_set img s) at in
          let q = same_place (sought_set img s) at in
          let one = some_byte (sought_set img s) at (eqb-false _ _ f) in
          rw (← piece_some img text allowance s at refl refl e (eqb-false _ _ f)) (λ z. omega (arith, choose_size k.set k.length k.at, q, one))

  -- At the end of the text, for any count; before it a token, or one piece of layout and the rest.
  module _ (s : ℕ) where
    on_end : (n : ℕ) (at : Spot) → length text ≤ at.place → look_on img text allowance s n at ≡ found 0 0 at
    unfolding look_on
    on_end zero at h = refl
    on_end (suc n) at h = simp (look_on, le-leb _ _ h)

    module _ (n : ℕ) (at : Spot) (h : at.place < length text) where
      on_token : is_layout img (piece img text allowance s at) ≡ false → look_on img text allowance s (suc n) at ≡ piece img text allowance s at
      unfolding look_on
      on_token i = simp (look_on, lt-leb _ _ h, i)

      on_layout : is_layout img (piece img text allowance s at) ≡ true
          → look_on img text allowance s (suc n) at ≡ look_on img text allowance s n (past (piece img text allowance s at).length (piece img text allowance s at).at)
      unfolding look_on
      on_layout i = simp (look_on, lt-leb _ _ h, i)

    -- The count never runs out: any two that are at least the bytes that are left give the same.
    pub on_enough : (n m : ℕ) (at : Spot) → length text - at.place ≤ n → length text - at.place ≤ m → look_on img text allowance s n at ≡ look_on img text allowance s m at
    on_enough zero m at hn hm = on_end zero at (omega arith) ∙ sym (on_end m at (omega arith))
    on_enough (suc n) zero at hn hm = on_end (suc n) at (omega arith) ∙ sym (on_end zero at (omega arith))
    on_enough (suc n) (suc m) at hn hm = go (on_enough n m) (leb (length text) at.place) refl (is_layout img (piece img text allowance s at)) refl
      where
        go : ((p : Spot) → length text - p.place ≤ n → length text - p.place ≤ m → look_on img text allowance s n p ≡ look_on img text allowance s m p)
            → (x : Bool) → leb (length text) at.place ≡ x → (y : Bool) → is_layout img (piece img text allowance s at) ≡ y
            → look_on img text allowance s (suc n) at ≡ look_on img text allowance s (suc m) at
        go ih true e y i = on_end (suc n) at (leb-true _ _ e) ∙ sym (on_end (suc m) at (leb-true _ _ e))
        go ih false e false i = on_token n at (leb-false _ _ e) i ∙ sym (on_token m at (leb-false _ _ e) i)
        go ih false e true i =
            let l = layout_size s at i in
            on_layout n at (leb-false _ _ e) i ∙ (ih _ (omega (arith, l)) (omega (arith, l)) ∙ sym (on_layout m at (leb-false _ _ e) i))

    module _ (at : Spot) where
      pub look_end : length text ≤ at.place → found 0 0 at ≡ look img text allowance s at
      unfolding look
      look_end h = sym (on_end _ at h)

      module _ (h : at.place < length text) {l : Looked} {b : Bool} (e : l ≡ piece img text allowance s at) (eb : b ≡ is_layout img l) where
        which : {x : Bool} → b ≡ x → is_layout img (piece img text allowance s at) ≡ x
        which ex = ap (λ (k : Looked). is_layout img k) (sym e) ∙ (sym eb ∙ ex)

        one_more : length text - at.place ≡ suc (length text - at.place - 1)
        one_more = omega arith

        pub look_token : b ≡ false → l ≡ look img text allowance s at
        unfolding look
        look_token f = e ∙ sym (rw one_more (on_token _ at h (which f)))

        pub look_less : b ≡ true → at.place < l.at.place + l.length
        look_less t = rw e (layout_size s at (which t))

        pub look_on_lem : b ≡ true → look img text allowance s at ≡ look img text allowance s (past l.length l.at)
        unfolding look
        look_on_lem t =
            let g = layout_size s at (which t) in
            rw (e, one_more) (on_layout _ at h (which t) ∙ on_enough _ _ _ (omega (arith, g)) (omega (arith, g)))
