-- The result of the printout is unique, the lent buffer included: two that meet its contract are the same. Assumes nothing.
use mathlib.Core.Path.{◌≡◌}
use mathlib.Core.List.{List}
use Prim.Native.Nat.{ℕ}
use lib.ListN.{length}
use Rattle.numbers.specs.Front.{buffer_after}
use Rattle.numbers.specs.declared.Answer.{Answer}
use Rattle.promise.proofs.Unique.{unique_lent}
use Rattle.print.specs.Print.{print}

pub one_printout : (text tree buffer : List ℕ) {r s : Answer} {m n : List ℕ}
    → (r ≡ (print text tree (length buffer)).answer) × (m ≡ buffer_after buffer (print text tree (length buffer)))
    → (s ≡ (print text tree (length buffer)).answer) × (n ≡ buffer_after buffer (print text tree (length buffer))) → (r ≡ s) × (m ≡ n)
one_printout text tree buffer = unique_lent
