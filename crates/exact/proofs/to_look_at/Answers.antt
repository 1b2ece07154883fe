use borrow.Author.Tests.{eq-eqb, le-ltb}
use lib.Pow.{pow_pos}
use mathlib.Core.Path.{◌≡◌}
use mathlib.Core.Bool.{true}
use mathlib.Core.List.{List}
use native.Mathlib.Omega.{arith}
use Prim.Native.Nat.{ℕ, ◌^◌, ◌<◌, ◌≤◌}
use Rattle.numbers.specs.Verdicts.{Good}
use Rattle.pack.specs.Image.{len, symbol}
use Rattle.rules.specs.Rules.{symbol_right}
use Rattle.order.specs.Shape.{rule, symbol_rule}
use Rattle.exact.proofs.to_look_at.Goals as goal

empty_below : (all k : ℕ) → all ≡ 0 → all < 2 ^ k
empty_below all k z = rw z (pow_pos k)

-- An unused symbol that is 0 is right.
unused_right : (img : List ℕ) (p i : ℕ) → len img p ≤ i → symbol img p i ≡ 0 → symbol_rule img p i ≡ Good
unfolding symbol_rule rule
unused_right img p i l z =
    let r : symbol_right img p i ≡ true = simp (symbol_right, le-ltb i (len img p) l, eq-eqb (symbol img p i) 0 z) in
    simp (symbol_rule, rule, r)

pub returns-then-joined-eq0 : goal.returns-then-joined-eq0
returns-then-joined-eq0 c = (
  omega (arith, c.if-used-gt-LAST_SET.false),
  λ i l h. unused_right _ _ i (omega (arith, c.len-used.ensures)) (c.joined.ensures.each (empty_below _ _ c.if-joined-eq0.true) i l h),
)
