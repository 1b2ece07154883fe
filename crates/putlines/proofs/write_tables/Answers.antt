use mathlib.Core.Path.{ap}
use native.Mathlib.Omega.{arith}
use lib.ListN.{length}
use Rattle.text.proofs.Tables.{tables_fit, words_on}
use Rattle.putlines.proofs.LineLaws.{tables_are, tables_length, tables_none}
use Rattle.putlines.proofs.write_tables.Goals as goal

pub loop-i-init : goal.loop-i-init
loop-i-init g c = record { place = tables_fit _ _ c.requires.0; room = omega arith; taken = λ t e p. p }

pub write_table-to-requires : goal.write_table-to-requires
write_table-to-requires g c =
    let l = c.loop-i in
    let h = c.loop-i-test.true in (
      c.requires.0,
      (
        h,
        (
          omega (arith, l.invariant.place, words_on c.args.form c.args.img.now l.i h),
          omega (arith, l.invariant.room, c.requires.1, tables_length c.args.form c.args.img.now l.i l.from h),
        ),
      ),
    )

pub table_words-from-requires : goal.table_words-from-requires
table_words-from-requires g c =
    let h = c.loop-i-test.true in
    (c.requires.0, (h, omega (arith, c.loop-i.invariant.place, words_on c.args.form c.args.img.now c.loop-i.i h)))

pub overflow_add-from : goal.overflow_add-from
overflow_add-from g c =
    omega (arith, c.table_words-from.ensures, c.loop-i.invariant.place, words_on c.args.form c.args.img.now c.loop-i.i c.loop-i-test.true)

pub loop-i-preserved : goal.loop-i-preserved
loop-i-preserved g c =
    let l = c.loop-i in
    let h = c.loop-i-test.true in
    let w = c.table_words-from.ensures in
    record {
      place = omega (arith, w, l.invariant.place, words_on c.args.form c.args.img.now l.i h);
      room = rw w (omega (arith, l.invariant.room, c.write_table-to.ensures.room, tables_length c.args.form c.args.img.now l.i l.from h));
      taken = λ t e p. l.invariant.taken t e (rw (tables_are c.args.form c.args.img.now l.i l.from h, ← w) (g.met.S.Sink.takes_more _ _ _ _ _ _ _ _ c.write_table-to.ensures.taken p));
    }

pub returns : goal.returns
returns g c =
    let l = c.loop-i in
    let none = tables_none c.args.form c.args.img.now l.i l.from c.loop-i-test.false in
    record { taken = l.invariant.taken _ _ (rw none (g.met.S.Sink.takes_none _ _)); room = omega (arith, l.invariant.room, ap length none) }
