-- `readlines::read_lines` meets its contract.
use mathlib.Core.Path.{◌∙◌}
use Prim.Native.Nat.{◌*◌, ◌≤◌}
use native.Mathlib.Nat.{mul-le-mul_right}
use native.Mathlib.Omega.{arith}
use lib.Seq.{take_all}
use Rattle.text.specs.Form.{row_width}
use Rattle.readlines.proofs.LineLaws.{row_inside, part_size, table_grows, lines_done, lines_wrong, lines_on}
use Rattle.readlines.proofs.read_lines.Goals as goal

pub returns-in_default : goal.returns-in_default
returns-in_default c = let l = c.loop-i in lines_wrong _ _ _ l.i _ _ _ l.invariant.same l.invariant.within c.loop-i-test.true c.in_default.ensures

pub loop-i-preserved : goal.loop-i-preserved
loop-i-preserved c =
    let l = c.loop-i in
    let e = c.row_width-width.ensures in
    let k = row_inside l.i c.args.n (row_width c.args.row) c.loop-i-test.true in
    record {
      within = omega (arith, l.invariant.within, c.in-Some.ensures.within);
      same = rw e
          (lines_on _ _ _ l.i _ _ _ l.invariant.same l.invariant.within c.loop-i-test.true _ _ _ c.in-Some.ensures
          (table_grows l.i (row_width c.args.row) _ l.rows c.read_line.new.row (c.read_line.auto.row ∙ rw e (part_size (l.i * row_width c.args.row) (row_width c.args.row) l.rows (omega (arith, k, c.requires.whole, l.auto.rows)))) (omega (arith, k, c.requires.whole, l.auto.rows))));
    }

pub returns : goal.returns
returns c =
    let l = c.loop-i in
    let k : c.args.n * row_width c.args.row ≤ l.i * row_width c.args.row = mul-le-mul_right (row_width c.args.row) c.loop-i-test.false in
    lines_done _ _ _ l.i _ _ _ l.invariant.same l.invariant.within _ c.loop-i-test.false (take_all _ _ (omega (arith, k, c.requires.whole, l.auto.rows)))
