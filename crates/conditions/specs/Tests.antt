-- Manual, section 4: what the tests of the check are made of, and what it means that a test decides a property.
use Rattle.std.specs.Prelude.{◌≡◌, Bool, true, false, ℕ, zero, suc}

-- Every number below n passes the test; some number below n does.
unfoldable pub all_below : ℕ → (ℕ → Bool) → Bool
all_below zero test = true
all_below (suc n) test = elim (all_below n test) [ true ↦ test n | false ↦ false ]

unfoldable pub some_below : ℕ → (ℕ → Bool) → Bool
some_below zero test = false
some_below (suc n) test = elim (some_below n test) [ true ↦ true | false ↦ test n ]

-- Where the first holds, the second must; and so both ways.
unfoldable pub implies : Bool → Bool → Bool
implies given wanted = elim given [ true ↦ wanted | false ↦ true ]

unfoldable pub same : Bool → Bool → Bool
same a b = elim a [ true ↦ b | false ↦ implies b false ]

-- The test is true exactly where the property holds.
pub record Decides (test : Bool) (P : Type 0) : Type 0 where
  pub sound : test ≡ true → P
  pub complete : P → test ≡ true
