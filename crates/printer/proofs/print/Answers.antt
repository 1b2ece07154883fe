use mathlib.Core.Path.{refl}
use native.Mathlib.Omega.{arith}
use Rattle.printer.proofs.Whole.{unsound, not_one, some_record, last_sound, too_deep_lem, too_small, print_room, printed}
use Rattle.printer.proofs.print.Goals as goal

pub returns-in_default : goal.returns-in_default
returns-in_default c =
    let g = not_one c.args.text.now c.args.tree.now c.args.buffer.now (c.in_default.ensures c.args.text.now) c.in_default.field-0-test.1 in
    record { value = g.0; buffer_after = g.1 }

pub returns-in_default-2 : goal.returns-in_default-2
returns-in_default-2 c =
    let g = unsound c.args.text.now c.args.tree.now c.args.buffer.now (rw c.in_default.is at (c.height.ensures c.args.text.now)) in
    record { value = g.0; buffer_after = g.1 }

pub overflow_sub-last : goal.overflow_sub-last
overflow_sub-last c = some_record c.args.text.now _ (c.in-Some-eq1.ensures c.args.text.now).1 c.in-Some-eq1.field-0-test

pub measure_node-requires : goal.measure_node-requires
measure_node-requires c = last_sound _ _ (c.in-Some-eq1.ensures c.args.text.now).1 c.in-Some-eq1.field-0-test

pub returns-in_default-measure_node : goal.returns-in_default-measure_node
returns-in_default-measure_node c =
    let g = too_deep_lem _ _ (c.in-Some-eq1.ensures c.args.text.now).1 c.in-Some-eq1.field-0-test c.in_default-measure_node.ensures c.args.buffer.now refl in
    record { value = g.0; buffer_after = g.1 }

pub returns-then-buffer-size : goal.returns-then-buffer-size
returns-then-buffer-size c =
    let g = too_small _ _ (c.in-Some-eq1.ensures c.args.text.now).1 c.in-Some-eq1.field-0-test c.in-Ok.ensures refl c.args.buffer.now c.if-buffer-size.true in
    record { value = g.0; buffer_after = g.1 }

pub print_node-requires : goal.print_node-requires
print_node-requires c =
    let e = (c.in-Some-eq1.ensures c.args.text.now).1 in
    let one = c.in-Some-eq1.field-0-test in
    record { sound = last_sound _ _ e one; room = print_room _ _ e one c.in-Ok.ensures refl c.args.buffer.now (omega (arith, c.well_formed)) c.if-buffer-size.false }

pub returns : goal.returns
returns c =
    let g = printed _ _ (c.in-Some-eq1.ensures c.args.text.now).1 c.in-Some-eq1.field-0-test c.in-Ok.ensures refl c.args.buffer.now (omega (arith, c.well_formed)) c.if-buffer-size.false c.print_node.ensures in
    record { value = g.0; buffer_after = g.1 }
