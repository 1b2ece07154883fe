-- `moves::rewrite_by` meets its contract.
use mathlib.Core.Path.{sym}
use native.Mathlib.Omega.{arith}
use lib.Seq.{length-take-le}
use Rattle.moves.proofs.Laws.{refuse_is, words_fit, words_sized, write_is}
use Rattle.moves.proofs.rewrite_by.Goals as goal

pub returns-then-code-ne-DONE : goal.returns-then-code-ne-DONE
returns-then-code-ne-DONE c =
    refuse_is _ _ c.requires.0 c.requires.1 _ _ c.read-a.ensures.value c.if-code-ne-DONE.true

pub slice_bounds-write_good-end : goal.slice_bounds-write_good-end
slice_bounds-write_good-end c =
    omega (arith, words_fit _ _ c.requires.0 c.requires.1 c.read-a.ensures.value c.read-a.ensures.buffer_after c.if-code-ne-DONE.false, c.read-a.auto.buffer)

pub slice_bounds-write_good-end-2 : goal.slice_bounds-write_good-end-2
slice_bounds-write_good-end-2 c =
    sym (length-take-le _ _ (omega (arith, words_fit _ _ c.requires.0 c.requires.1 c.read-a.ensures.value c.read-a.ensures.buffer_after c.if-code-ne-DONE.false, c.read-a.auto.buffer)))

pub write_good-requires : goal.write_good-requires
write_good-requires c =
    words_sized _ _ c.requires.0 c.requires.1 c.read-a.ensures.value c.read-a.ensures.buffer_after c.if-code-ne-DONE.false

pub returns : goal.returns
returns c =
    write_is _ _ c.requires.0 c.requires.1 c.read-a.ensures.value c.read-a.ensures.buffer_after c.if-code-ne-DONE.false _ _ _ _ c.write_good.ensures
