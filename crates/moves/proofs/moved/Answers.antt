use mathlib.Core.Path.{◌≡◌, sym, ap, ◌∙◌}
use Rattle.text.specs.Reader.{form_of}
use Rattle.moves.specs.Forms.{other}
use Rattle.moves.proofs.Laws.{same_form, move_long, move_other, move_is}
use Rattle.moves.proofs.moved.Goals as goal

pub returns-then-text-gt-LONGEST_TEXT : goal.returns-then-text-gt-LONGEST_TEXT
returns-then-text-gt-LONGEST_TEXT c = let m = move_long (other c.args.to) c.args.to c.args.text.now c.args.buffer.now c.if-text-gt-LONGEST_TEXT.true in record { value = m.0; buffer_after = m.1 }

pub returns-in_default : goal.returns-in_default
returns-in_default c =
    let m = move_other (other c.args.to) c.args.to c.args.text.now c.args.buffer.now c.if-text-gt-LONGEST_TEXT.false (same_form c.args.to c.args.text.now (sym c.form_of-form.ensures ∙ c.in_default.is-0 ∙ sym c.in_default.is-1)) in
    record { value = m.0; buffer_after = m.1 }

pub returns-in_default-2 : goal.returns-in_default-2
returns-in_default-2 c =
    let m = move_other (other c.args.to) c.args.to c.args.text.now c.args.buffer.now c.if-text-gt-LONGEST_TEXT.false (same_form c.args.to c.args.text.now (sym c.form_of-form.ensures ∙ c.in_default.is-0 ∙ sym c.in_default.is-1)) in
    record { value = m.0; buffer_after = m.1 }

pub returns-in-One-Two : goal.returns-in-One-Two
returns-in-One-Two c =
    let e : form_of c.args.text.now ≡ other c.args.to = sym c.form_of-form.ensures ∙ c.in-One-Two.is-0 ∙ ap other (sym c.in-One-Two.is-1) in
    let m = move_is (other c.args.to) c.args.to c.args.text.now c.args.buffer.now c.if-text-gt-LONGEST_TEXT.false e _ _ (rw c.in-One-Two.is-1 c.rewrite.ensures) in
    record { value = m.0; buffer_after = m.1 }

pub returns-in-Two-One : goal.returns-in-Two-One
returns-in-Two-One c =
    let e : form_of c.args.text.now ≡ other c.args.to = sym c.form_of-form.ensures ∙ c.in-Two-One.is-0 ∙ ap other (sym c.in-Two-One.is-1) in
    let m = move_is (other c.args.to) c.args.to c.args.text.now c.args.buffer.now c.if-text-gt-LONGEST_TEXT.false e _ _ (rw c.in-Two-One.is-1 c.rewrite-in-Two-One.ensures) in
    record { value = m.0; buffer_after = m.1 }
