use mathlib.Core.Path.{refl}
use Rattle.writer.proofs.Laws.{text_long, text_small, text_done}
use Rattle.writer.proofs.write_good.Goals as goal

pub returns-then-size-gt-LONGEST_TEXT : goal.returns-then-size-gt-LONGEST_TEXT
returns-then-size-gt-LONGEST_TEXT c = text_long _ _ _ _ c.text_size-size.ensures c.if-size-gt-LONGEST_TEXT.true

pub returns-then-buffer-size : goal.returns-then-buffer-size
returns-then-buffer-size c = text_small _ _ _ _ c.text_size-size.ensures c.if-size-gt-LONGEST_TEXT.false c.if-buffer-size.true

pub returns : goal.returns
returns c =
    text_done _ _ _ _ c.text_size-size.ensures c.if-size-gt-LONGEST_TEXT.false _ _ refl c.if-buffer-size.false c.write_text-end.ensures.taken
