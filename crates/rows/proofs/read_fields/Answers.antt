-- `rows::read_fields` meets its contract.
use Prim.Native.Nat.{◌*◌, ◌≤◌}
use native.Mathlib.Nat.{mul-le-mul_right}
use native.Mathlib.Omega.{arith}
use lib.Seq.{take_all}
use Rattle.text.specs.Fields.{width_of}
use Rattle.rows.proofs.RowLaws.{after_low, fields_done, fields_wrong, fields_on}
use Rattle.rows.proofs.read_fields.Goals as goal

pub read_field-requires-clause-no_digit : goal.read_field-requires-clause-no_digit
read_field-requires-clause-no_digit g c = rw c.after.ensures (after_low _ _ c.requires.no_digit)

pub returns-in_err-left : goal.returns-in_err-left
returns-in_err-left g c =
    let l = c.loop-i in rw c.from_residual.ensures (fields_wrong _ _ _ l.i _ _ _ l.invariant.same _ c.loop-i-test.true c.after.ensures c.in_err-left.ensures)

pub loop-i-preserved : goal.loop-i-preserved
loop-i-preserved g c =
    let l = c.loop-i in record {
      within = omega (arith, l.invariant.within, c.in_ok-left.ensures.within);
      same = fields_on _ _ _ l.i _ _ _ l.invariant.same _ c.loop-i-test.true c.after.ensures _ _ c.in_ok-left.ensures;
    }

pub returns : goal.returns
returns g c =
    let l = c.loop-i in
    let k : c.args.n * width_of g.F.FieldForm.kind ≤ l.i * width_of g.F.FieldForm.kind = mul-le-mul_right (width_of g.F.FieldForm.kind) c.loop-i-test.false in
    fields_done _ _ _ l.i _ _ _ l.invariant.same _ c.loop-i-test.false (take_all _ _ (omega (arith, k, c.requires.whole, l.auto.row))) l.invariant.within
