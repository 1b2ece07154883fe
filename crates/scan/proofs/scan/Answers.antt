use mathlib.Core.Path.{sym, ◌∙◌}
use Rattle.shape.proofs.Good.{good_laid}
use Rattle.scan.proofs.Laws.{rest_of, alone_long, alone_wrong, alone_scan}
use Rattle.scan.proofs.scan.Goals as goal

pub returns-then-text-gt-LONGEST_TEXT : goal.returns-then-text-gt-LONGEST_TEXT
returns-then-text-gt-LONGEST_TEXT c = c.five_numbers.ensures ∙ alone_long _ _ _ _ _ c.if-text-gt-LONGEST_TEXT.true

pub returns-in-Err : goal.returns-in-Err
returns-in-Err c = c.five_numbers-in-Err.ensures ∙ alone_wrong _ _ _ _ _ c.if-text-gt-LONGEST_TEXT.false _ c.in-Err.ensures

pub all_but_end-requires : goal.all_but_end-requires
all_but_end-requires c = good_laid _ (sym (c.in_default.ensures {u = tt}))

pub any_scan-found-requires : goal.any_scan-found-requires
any_scan-found-requires c = let good = sym (c.in_default.ensures {u = tt}) in record { laid = good_laid _ good; good = good }

pub returns : goal.returns
returns c =
    c.answer.ensures
    ∙ alone_scan _ _ _ _ _ c.if-text-gt-LONGEST_TEXT.false (c.in_default.ensures {u = tt}) c.min-place.ensures c.all_but_end.ensures
    (rest_of c.args.text.now c.min-place.result) c.any_scan-found.ensures.value
