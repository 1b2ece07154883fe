use mathlib.Core.Path.{ap, ◌∙◌}
use mathlib.Core.List.{List}
use Prim.Native.Nat.{ℕ}
use lib.ListN.{length}
use Rattle.print.specs.Print.{escaped}
use Rattle.measure.proofs.Sizes.{leaf_sized}
use Rattle.measure.proofs.with_leaf.Goals as goal

pub returns : goal.returns
returns c =
    leaf_sized _ _ _ (c.bytes_size-bytes.ensures ∙ ap (λ (x : List ℕ). length (escaped x)) c.leaf_bytes.ensures) c.plus.ensures
    (c.with_number.ensures ∙ rw c.word-number.ensures) c.plus-2.ensures
