-- Assumes nothing.
use mathlib.Core.Path.{◌≡◌, ap₂}
use Prim.Native.Nat.{ℕ, ◌*◌}

-- Equal factors have equal products: `omega` takes a product of two unknowns as one.
pub times : {a b x y : ℕ} → a ≡ x → b ≡ y → a * b ≡ x * y
times e f = ap₂ (λ (u v : ℕ). u * v) e f
