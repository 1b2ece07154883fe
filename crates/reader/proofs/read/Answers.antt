-- `reader::read` meets its contract.
use native.Mathlib.Omega.{arith}
use Rattle.reader.proofs.TableLaws.{head_sized, needed_most, in_wrong, by_wrong, read_long, read_is}
use Rattle.reader.proofs.read.Goals as goal

pub returns-then-text-gt-LONGEST_TEXT : goal.returns-then-text-gt-LONGEST_TEXT
returns-then-text-gt-LONGEST_TEXT c = let r = read_long _ _ c.if-text-gt-LONGEST_TEXT.true in record { value = r.0; buffer_after = r.1 }

pub needed-size-requires : goal.needed-size-requires
needed-size-requires c = head_sized _ _ _ _ c.in-Ok.ensures.0

pub read_by-requires-in-Ok-clause-room : goal.read_by-requires-in-Ok-clause-room
read_by-requires-in-Ok-clause-room c = (needed_most _ _ _ _ c.in-Ok.ensures.0, omega arith)

pub returns-in-Err : goal.returns-in-Err
returns-in-Err c =
    let r = read_is _ _ _ _ _ c.form_of-form.ensures c.if-text-gt-LONGEST_TEXT.false (rw c.refused.ensures (by_wrong _ _ _ _ _ (in_wrong _ _ _ c.in-Err.ensures.0))) in
    record { value = r.0; buffer_after = r.1 }

pub returns-then-size-le-SMALL_IMAGE : goal.returns-then-size-le-SMALL_IMAGE
returns-then-size-le-SMALL_IMAGE c = let r = read_is _ _ _ _ _ c.form_of-form.ensures c.if-text-gt-LONGEST_TEXT.false c.read_by.ensures in record { value = r.0; buffer_after = r.1 }

pub returns-then-size-le-MIDDLE_IMAGE : goal.returns-then-size-le-MIDDLE_IMAGE
returns-then-size-le-MIDDLE_IMAGE c = let r = read_is _ _ _ _ _ c.form_of-form.ensures c.if-text-gt-LONGEST_TEXT.false c.read_by-then-size-le-MIDDLE_IMAGE.ensures in record { value = r.0; buffer_after = r.1 }

pub returns-else-size-le-MIDDLE_IMAGE : goal.returns-else-size-le-MIDDLE_IMAGE
returns-else-size-le-MIDDLE_IMAGE c = let r = read_is _ _ _ _ _ c.form_of-form.ensures c.if-text-gt-LONGEST_TEXT.false c.read_by-in-Ok.ensures in record { value = r.0; buffer_after = r.1 }
