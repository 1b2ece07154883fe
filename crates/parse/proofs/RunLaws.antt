-- Laws of a turn, of the loop over turns, and of the parse: one for each way out. Assumes nothing.
use mathlib.Core.Path.{◌≡◌, refl, sym, ap, ◌∙◌}
use mathlib.Core.Bool.{Bool, true, false}
use mathlib.Core.List.{List, [], ◌∷◌}
use Prim.Native.Nat.{ℕ, zero, suc, ◌+◌, ◌-◌, ◌*◌, ◌/◌, ◌<◌, ◌≤◌}
use native.Mathlib.Omega.{arith}
use native.Mathlib.Numerals.{sub-one}
use native.Mathlib.Nat.{sub-zero}
use lib.Dec.{leb}
use lib.ListN.{length, get_or, take, drop, take-append-drop, replicate, length-replicate}
use lib.Seq.{length-take-le, drop-drop}
use borrow.Author.Tests.{eq-eqb, ne_eqb, lt-ltb, le-ltb}
use Rattle.std.specs.Prelude.{Result, Ok, Err}
use Rattle.numbers.specs.Verdicts.{Good, Wrong}
use Rattle.numbers.specs.Codes.{query_too_long, wrong_shape}
use Rattle.pack.specs.Image.{states, act, action_of}
use Rattle.pack.specs.Laid.{Laid}
use Rattle.shape.specs.Shape.{shape}
use Rattle.look.specs.declared.Spot.{Spot}
use Rattle.look.specs.Look.{Looked, look}
use Rattle.look.specs.declared.ParseError.{ParseError}
use Rattle.records.specs.declared.Parsed.{Parsed}
use Rattle.look.specs.declared.Token.{Token}
use Rattle.records.specs.declared.Turned.{Turned}
use Rattle.records.specs.declared.Turned.TheVariants.{Accepted, Went}
use Rattle.records.specs.declared.parser.Parser.{Parser}
use Rattle.records.specs.Parse.{Standing, Ending, Step, ends, goes, top, moved, perform, step, run, start, room_of, before, parse, tree_after}
use Rattle.records.specs.Inner.{KeptTurn, Turning, Turn, stops, turns, standing, bounded, told, ended, parsed_of}
use Rattle.look.specs.Next.{looked_at}
use Rattle.look.proofs.Laws.{error_some}
use Rattle.records.proofs.ActLaws.{bounded-ends}

-- One turn.
module _ (img : List ℕ) (looks : ℕ → Spot → Looked) (left : ℕ) (here : Standing) {l : Looked} (el : l ≡ looks (top here.stack) here.at) where
  pub turn_refused : (e : ParseError) → looked_at (Err e) l.at ≡ l → told (Err e) (moved l.at here) ≡ bounded left (step img looks here)
  unfolding told step
  turn_refused e q =
      let n : l.code ≡ 0 → ⊥ = λ z. error_some e (ap (λ (x : Looked). x.code) q ∙ z) in
      simp (step, ← el, ne_eqb _ _ n) (rw (← q) (sym (bounded-ends left _)))

  pub turn_found : {t : Turn} {k : Token} → looked_at (Ok k) l.at ≡ l
      → t ≡ bounded left (perform img (action_of (act img (top here.stack) k.terminal)) k.length k.terminal (moved l.at here))
      → t ≡ bounded left (step img looks here)
  unfolding step
  turn_found {k = k} q h =
      let z : l.code ≡ 0 = sym (ap (λ (x : Looked). x.code) q) in
      let et : l.terminal ≡ k.terminal = sym (ap (λ (x : Looked). x.terminal) q) in
      let en : l.length ≡ k.length = sym (ap (λ (x : Looked). x.length) q) in
      simp (step, ← el, eq-eqb _ _ z, et, en) h

-- The run, turn by turn.
after : (Standing → Ending) → Turn → Ending
after f (stops e) = e
after f (turns next) = f next

module _ (img : List ℕ) (looks : ℕ → Spot → Looked) where
  unrolled : (left : ℕ) (here : Standing) → run img looks left here ≡ after (run img looks (left - 1)) (bounded left (step img looks here))
  unfolding run bounded after
  unrolled zero here = go (step img looks here) refl
    where
      go : (x : Step) → step img looks here ≡ x → run img looks zero here ≡ after (run img looks (zero - 1)) (bounded zero (step img looks here))
      go (ends e) f = simp (run, bounded, after, f)
      go (goes h n) f = simp (run, bounded, after, f)
  unrolled (suc left) here = go (step img looks here) refl
    where
      high : (h n : Standing) → (b : Bool) → leb (length n.stack) 512 ≡ b → step img looks here ≡ goes h n
          → run img looks (suc left) here ≡ after (run img looks (suc left - 1)) (bounded (suc left) (step img looks here))
      high h n true e f = rw (sub-one (suc left)) (simp (run, bounded, after, f, e))
      high h n false e f = simp (run, bounded, after, f, e)

      go : (x : Step) → step img looks here ≡ x → run img looks (suc left) here ≡ after (run img looks (suc left - 1)) (bounded (suc left) (step img looks here))
      go (ends e) f = simp (run, bounded, after, f)
      go (goes h n) f = high h n (leb (length n.stack) 512) refl f

  module _ (left : ℕ) (here next : Standing) {t : Turn} (told-is : t ≡ bounded left (step img looks here)) where
    pub run_on : t ≡ turns next → run img looks left here ≡ run img looks (left - 1) next
    unfolding after
    run_on e = unrolled left here ∙ rw (← told-is, e) refl

    pub run-stops : {e : Ending} → t ≡ stops e → run img looks left here ≡ e
    unfolding after
    run-stops e = unrolled left here ∙ rw (← told-is, e) refl

-- What a turn comes to, by its result.
module _ {r : Result Turned ParseError} (here : Standing) where
  pub told_went : r ≡ Ok Went → told r here ≡ turns here
  unfolding told
  told_went e = rw e refl

  pub told_accepted : r ≡ Ok Accepted → told r here ≡ stops (ended (Ok tt) here)
  unfolding told
  told_accepted e = rw e refl

  pub told_refused : (e : ParseError) → r ≡ Err e → told r here ≡ stops (ended (Err e) here)
  unfolding told
  told_refused e f = rw f refl

-- The rest of the tree, further on.
further : (n m : ℕ) (t t₀ : List ℕ) → n ≤ m → drop n t ≡ drop n t₀ → drop m t ≡ drop m t₀
further n m t t₀ l e =
    let z : n + (m - n) ≡ m = omega arith in
    rw (← z) (sym (drop-drop (m - n) n t) ∙ ap (drop (m - n)) e ∙ drop-drop (m - n) n t₀)

module _ (img text tree₀ : List ℕ) (allowance : ℕ) (known tree : List ℕ) (p : Parser) (i : Turning img text tree₀ allowance known tree p)
    (known' tree' : List ℕ) (p' : Parser) {r : Result Turned ParseError}
    (t : told r (standing p' tree') ≡ bounded (p.room - p.records) (step img (look img text allowance) (standing p tree)))
    (q : KeptTurn img text allowance p tree p' known' tree' r) where
  rest_on : drop (p'.records * 4) tree' ≡ drop (p'.records * 4) tree₀
  rest_on = q.rest ∙ further (p.records * 4) (p'.records * 4) tree tree₀ (omega (arith, q.grown)) i.rest

  pub turns_on : r ≡ Ok Went → Turning img text tree₀ allowance known' tree' p'
  turns_on e =
      let z : p.room - p.records - 1 ≡ p'.room - p'.records = omega (arith, q.more e, q.room) in
      record {
        stacked = q.stacked;
        sets = q.known;
        room = q.room ∙ i.room;
        within = q.within;
        rest = rest_on;
        whole = q.whole ∙ i.whole;
        same = i.same ∙ (run_on img (look img text allowance) (p.room - p.records) (standing p tree) _ t (told_went _ e) ∙ rw z refl);
      }

  module _ (e : Result (Unit {0}) ParseError) (s : told r (standing p' tree') ≡ stops (ended e (standing p' tree'))) where
    ending_is : run img (look img text allowance) (room_of tree₀) start ≡ ended e (standing p' tree')
    ending_is = i.same ∙ run-stops img (look img text allowance) (p.room - p.records) (standing p tree) (standing p' tree') t s

    words : length (take (p'.records * 4) tree') ≡ p'.records * 4
    words = length-take-le (p'.records * 4) tree' (omega (arith, q.room, i.room, q.whole, i.whole, p'.within))

    pub turns_end : {x : Parsed} → x ≡ parsed_of e p'.records p'.at → x ≡ (run img (look img text allowance) (room_of tree₀) start).parsed
    turns_end ex =
        let n : p'.records * 4 / 4 ≡ p'.records = omega arith in
        ex ∙ sym (ap (λ (y : Ending). y.parsed) ending_is ∙ rw (words, n) refl)

    pub turns_tree : tree' ≡ tree_after tree₀ (run img (look img text allowance) (room_of tree₀) start)
    turns_tree = rw (ending_is, words, ← rest_on) (sym (take-append-drop (p'.records * 4) tree'))

-- Where it begins.
zeros : (n i : ℕ) → ◌≡◌ {A = ℕ} (get_or (replicate n 0) i 0) 0
zeros zero i = refl
zeros (suc n) zero = refl
zeros (suc n) (suc i) = zeros n i

pub turning_starts : (img text tree : List ℕ) (allowance : ℕ) (p : Parser) → Laid img → p.room ≡ room_of tree → p.stack ≡ 0 ∷ [] → p.records ≡ 0
    → p.at ≡ record { place = 0; moves = 0 } → Turning img text tree allowance (replicate 128 0) tree p
turning_starts img text tree allowance p laid er es en ea =
    record {
      stacked = first;
      sets = record { size = length-replicate {A = ℕ} 128 0; each = λ s h. absurd (h (zeros 128 s)) };
      room = er;
      within = rw ea (record { place = omega arith; moves = omega arith });
      rest = refl;
      whole = refl;
      same = rw (er, es, en, ea, sub-zero) refl;
    }
  where
    first : (i : ℕ) → get_or p.stack i 0 < states img
    first zero = rw es laid.sized.s_least
    first (suc i) = rw es laid.sized.s_least

-- The ways out of the parse.
module _ (img text tree : List ℕ) (allowance : ℕ) where
  pub parse_long : 65535 < length text → before query_too_long 0 ≡ parse img text tree allowance
  unfolding parse
  parse_long h = simp (parse, lt-ltb _ _ h)

  module _ (h : length text ≤ 65535) where
    pub parse_wrong : (p : ℕ) → Wrong p ≡ shape img → before wrong_shape p ≡ parse img text tree allowance
    unfolding parse
    parse_wrong p e = simp (parse, le-ltb _ _ h, sym e)

    pub parse_runs : Good ≡ shape img → run img (look img text allowance) (room_of tree) start ≡ parse img text tree allowance
    unfolding parse
    parse_runs g = simp (parse, le-ltb _ _ h, sym g)
