use Rattle.std.proofs.Common.{◌≡◌, ℕ, ◌+◌, ◌%◌, ◌<◌, ◌≤◌}
use Rattle.pack.specs.Image.{act}
use Rattle.order.specs.Quick.{sum, accept}
use Rattle.quick.proofs.first_column.Given as goal

abbrev pub invariant-loop-s : goal.invariant-loop-s
invariant-loop-s l = record {
  few : l.n ≤ l.s;
  accepts : l.n ≡ sum (λ j. accept (act l.img (l.from + j) 0)) l.s;
  no_shift : (j : ℕ) → j < l.s → act l.img (l.from + j) 0 % 2 ≡ 0 → act l.img (l.from + j) 0 ≡ 0;
}
