-- Laws of sets of a row that are joined. Assumes nothing.
use mathlib.Core.Path.{refl, sym, ◌∙◌}
use mathlib.Core.Bool.{Bool, ◌&&◌}
use mathlib.Core.List.{List}
use Prim.Native.Nat.{ℕ, ◌+◌, ◌<◌}
use lib.ListN.{get_or}
use lib.Bits.{bit_or}
use Rattle.sets.specs.Sets.{member}
use Rattle.conditions.specs.Tests.{some_below}
use Rattle.edges.specs.Rows.{bit_at, Whole, Next, joined}
use Rattle.edges.proofs.RowLaws.{some_more, some_past, whole_of, whole_same, whole_or, whole_none}

-- Sets joined, one after the other: those whose numbers are below v.
module _ (row : List ℕ) (of : ℕ) where
  unfoldable pub joined_below : ℕ → ℕ → Bool
  joined_below v y = some_below v (λ w. member of w && bit_at row w y)

  pub join_none : Whole (joined_below 0) 0
  unfolding joined_below some_below
  join_none = whole_none (λ y. refl)

  pub join_past : {v u all : ℕ} → Whole (joined_below v) all → Next (member of) 128 v u → Whole (joined_below u) all
  unfolding joined_below
  join_past {v} {u} w n = whole_same (λ y l. some_past v u (λ t. member of t && bit_at row t y) n.from (λ t a b. rw (n.none t a b))) w

  pub join_more : (v u : ℕ) {all : ℕ} → Whole (joined_below v) all → Next (member of) 128 v u → u < 128
      → Whole (joined_below (u + 1)) (bit_or all (get_or row u 0))
  unfolding joined_below
  join_more v u w n l =
      whole_same (λ y m. sym (some_more u (λ t. member of t && bit_at row t y) ∙ rw (n.there l))) (whole_or (join_past w n) (whole_of (get_or row u 0)))

  pub join_all : (v : ℕ) {all : ℕ} → Whole (joined_below v) all → Next (member of) 128 v 128 → Whole (joined row of) all
  unfolding joined_below joined
  join_all v w n = join_past w n
