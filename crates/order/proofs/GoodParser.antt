-- What a pack of good shape gives to the parser: each fact by its name. Assumes nothing.
use mathlib.Core.Path.{◌≡◌, refl, ap}
use mathlib.Core.Bool.{Bool, true, false}
use mathlib.Core.List.{List}
use Prim.Native.Nat.{ℕ, ◌+◌, ◌*◌, ◌-◌, ◌/◌, ◌%◌, ◌<◌, ◌≤◌}
use native.Mathlib.Omega.{arith}
use lib.Dec.{eqb, leb, ltb}
use borrow.Author.Tests.{leb-true, ltb-true, eqb-true, eqb-false}
use Rattle.sets.specs.Sets.{has, member, lacks}
use Rattle.words.specs.declared.Action.{Action}
use Rattle.words.specs.declared.Action.TheVariants.{Error, Accept, Shift, Reduce}
use Rattle.pack.specs.Image.{most_symbols, terminals, nonterminals, productions, states, groups, layout, lhs, len, act, action_of, goto, group_set, chosen}
use Rattle.numbers.specs.Verdicts.{Good}
use Rattle.order.specs.Shape.{each, parser_rules, scanner_rules, prod_rule, act_rule, cell_rule, goto_rules, group_rule, shape}
use Rattle.rules.specs.Rules.{act_right}
use Rattle.order.proofs.Laws.{both, rule_good, and_then_good, each_at}
use Rattle.order.proofs.Good.{good_parts}

-- The code of each action.
module _ (code : ℕ) where
  pub data Coded : Action → Type 0 where
    error : code ≡ 0 → Coded Error
    accept : code ≡ 1 → Coded Accept
    shift : (s : ℕ) → code ≡ 2 + 2 * s → Coded (Shift s)
    reduce : (p : ℕ) → code ≡ 3 + 2 * p → Coded (Reduce p)

  pub coded : Coded (action_of code)
  unfolding action_of
  coded = go (eqb code 0) refl (eqb code 1) refl (eqb ((code - 2) % 2) 0) refl
    where
      go : (a : Bool) → eqb code 0 ≡ a → (b : Bool) → eqb code 1 ≡ b → (c : Bool) → eqb ((code - 2) % 2) 0 ≡ c → Coded (action_of code)
      go true ea b eb c ec = simp (action_of, ea) (error (eqb-true _ _ ea))
      go false ea true eb c ec = simp (action_of, ea, eb) (accept (eqb-true _ _ eb))
      go false ea false eb true ec =
          let x : (code ≡ 0 → ⊥) = eqb-false _ _ ea in
          let y : (code ≡ 1 → ⊥) = eqb-false _ _ eb in
          let z : (code - 2) % 2 ≡ 0 = eqb-true _ _ ec in
          simp (action_of, ea, eb, ec) (shift ((code - 2) / 2) (omega arith))
      go false ea false eb false ec =
          let x : (code ≡ 0 → ⊥) = eqb-false _ _ ea in
          let y : (code ≡ 1 → ⊥) = eqb-false _ _ eb in
          let z : ((code - 2) % 2 ≡ 0 → ⊥) = eqb-false _ _ ec in
          simp (action_of, ea, eb, ec) (reduce ((code - 2) / 2) (omega arith))

pub shift_code : (v : ℕ) → action_of (2 + 2 * v) ≡ Shift v
shift_code v = go (action_of (2 + 2 * v)) (coded (2 + 2 * v))
  where
    go : (a : Action) → Coded (2 + 2 * v) a → a ≡ Shift v
    go a (error e) = absurd (omega arith)
    go a (accept e) = absurd (omega arith)
    go a (shift s e) = ap Shift (omega arith)
    go a (reduce p e) = absurd (omega arith)

pub reduce_code : (p : ℕ) → action_of (3 + 2 * p) ≡ Reduce p
reduce_code v = go (action_of (3 + 2 * v)) (coded (3 + 2 * v))
  where
    go : (a : Action) → Coded (3 + 2 * v) a → a ≡ Reduce v
    go a (error e) = absurd (omega arith)
    go a (accept e) = absurd (omega arith)
    go a (shift s e) = absurd (omega arith)
    go a (reduce p e) = ap Reduce (omega arith)

module _ (img : List ℕ) (good : shape img ≡ Good) where
  parser : (each (prod_rule img) (productions img) 0 ≡ Good) × (each (λ s. each (act_rule img s) (terminals img) 0) (states img) 0 ≡ Good)
      × (goto_rules img ≡ Good)
  unfolding parser_rules
  parser =
      let a = and_then_good _ _ (and_then_good _ _ (good_parts img good).1).1 in
      let b = and_then_good _ _ a.1 in
      let c = and_then_good _ _ b.1 in
      (b.0, c.0, c.1)

  group_rows : each (group_rule img) (groups img) 0 ≡ Good
  unfolding scanner_rules
  group_rows = (and_then_good _ _ (and_then_good _ _ (and_then_good _ _ (good_parts img good).2).1).1).1

  -- Every goto leads to a parse state, or nowhere.
  pub good_goto : (s n : ℕ) → s < states img → n < nonterminals img → goto img s n ≤ states img
  unfolding goto_rules cell_rule goto
  good_goto s n ls ln = leb-true _ _ (rule_good _ _ (each_at _ _ (each_at _ _ parser.2 s ls) n ln))

  pub reduce_to : {u n to : ℕ} → u < states img → n < nonterminals img → to ≡ goto img u n → to ≤ states img
  reduce_to lu ln e = rw e (good_goto _ _ lu ln)

  -- A production makes one of the nonterminals, of at most 14 symbols.
  pub good_lhs : (p : ℕ) → p < productions img → lhs img p < nonterminals img
  unfolding prod_rule
  good_lhs p l = ltb-true _ _ (rule_good _ _ (and_then_good _ _ (each_at _ _ parser.0 p l)).0)

  pub good_len : (p : ℕ) → p < productions img → len img p ≤ most_symbols
  unfolding prod_rule
  good_len p l = leb-true _ _ (rule_good _ _ (and_then_good _ _ (and_then_good _ _ (each_at _ _ parser.0 p l)).1).0)

  -- What a cell of the action table may say in column t.
  pub data Allowed (t : ℕ) : Action → Type 0 where
    nothing : Allowed t Error
    accepts : t ≡ 0 → Allowed t Accept
    shifts : (s : ℕ) → 1 ≤ t → s < states img → Allowed t (Shift s)
    reduces : (p : ℕ) → p < productions img → Allowed t (Reduce p)

  allowed : (t : ℕ) (a : Action) → act_right img t a ≡ true → Allowed t a
  unfolding act_right
  allowed t Error e = nothing
  allowed t Accept e = accepts (eqb-true _ _ e)
  allowed t (Shift s) e = let b = both (leb 1 t) (ltb s (states img)) (both (lacks (layout img) t) _ e).1 in shifts s (leb-true _ _ b.0) (ltb-true _ _ b.1)
  allowed t (Reduce p) e = reduces p (ltb-true _ _ (both (lacks (layout img) t) _ e).1)

  pub act_allowed : (s t : ℕ) → s < states img → t < terminals img → Allowed t (action_of (act img s t))
  unfolding act_rule
  act_allowed s t ls lt = allowed t _ (rule_good _ _ (each_at _ _ (each_at _ _ parser.1 s ls) t lt))

  shift_in : {t v : ℕ} → Allowed t (Shift v) → (1 ≤ t) × (v < states img)
  shift_in (shifts v a b) = (a, b)

  reduce_in : {t p : ℕ} → Allowed t (Reduce p) → p < productions img
  reduce_in (reduces p a) = a

  -- A shift leads to a parse state, and is in no column 0; a reduction is by a production; an accept is in column 0. By the code:
  pub good_shift : (s t v : ℕ) → s < states img → t < terminals img → act img s t ≡ 2 + 2 * v → (1 ≤ t) × (v < states img)
  good_shift s t v ls lt e = shift_in (rw (e, shift_code v) at (act_allowed s t ls lt))

  pub good_reduce : (s t p : ℕ) → s < states img → t < terminals img → act img s t ≡ 3 + 2 * p → p < productions img
  good_reduce s t p ls lt e = reduce_in (rw (e, reduce_code p) at (act_allowed s t ls lt))

  pub good_accept : (s t : ℕ) → s < states img → t < terminals img → act img s t ≡ 1 → t ≡ 0
  unfolding action_of
  good_accept s t ls lt e = go (rw e at (act_allowed s t ls lt))
    where
      go : Allowed t (action_of 1) → t ≡ 0
      go (accepts a) = a

  -- .. and by the action:
  pub good_shift_to : (s t v : ℕ) → s < states img → t < terminals img → action_of (act img s t) ≡ Shift v → v < states img
  good_shift_to s t v ls lt e = (shift_in (rw e at (act_allowed s t ls lt))).1

  pub good_reduce_by : (s t p : ℕ) → s < states img → t < terminals img → action_of (act img s t) ≡ Reduce p → p < productions img
  good_reduce_by s t p ls lt e = reduce_in (rw e at (act_allowed s t ls lt))

  -- A group's chosen terminal is in its set.
  pub good_group : (g : ℕ) → g < groups img → has (group_set img g) (chosen img g) ≡ 1
  unfolding group_rule member
  good_group g l = eqb-true _ _ (rule_good _ _ (and_then_good _ _ (each_at _ _ group_rows g l)).1)
