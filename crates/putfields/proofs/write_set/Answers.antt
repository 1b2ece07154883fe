use Rattle.putfields.proofs.FieldLaws.{set_text}
use Rattle.putfields.proofs.write_set.Goals as goal

pub returns-clause-taken : goal.returns-clause-taken
returns-clause-taken g c =
    let more = g.met.S.Sink.takes_more in
    rw (set_text c.args.img.now c.args.i c.word.ensures.0 c.word-2.ensures.0 c.word-3.ensures.0 c.word-4.ensures.0)
    (more _ _ _ _ _ _ _ _ c.write_hex_word-a.ensures.taken (more _ _ _ _ _ _ _ _ c.write_hex_word-b.ensures.taken (more _ _ _ _ _ _ _ _ c.write_hex_word-c.ensures.taken c.write_hex_word.ensures.taken)))
