use mathlib.Core.List.{[], ◌∷◌}
use Rattle.putfields.proofs.FieldLaws.{hex_text}
use Rattle.putfields.proofs.write_hex_word.Goals as goal

pub returns-clause-taken : goal.returns-clause-taken
returns-clause-taken g c =
    let more = g.met.S.Sink.takes_more in
    rw (hex_text c.args.w c.hex_byte.ensures c.hex_byte-2.ensures c.hex_byte-3.ensures c.hex_byte-4.ensures)
    (more _ _ _ _ _ _ (_ ∷ []) (_ ∷ _ ∷ _ ∷ []) c.put-a.ensures.taken (more _ _ _ _ _ _ (_ ∷ []) (_ ∷ _ ∷ []) c.put-b.ensures.taken (more _ _ _ _ _ _ (_ ∷ []) (_ ∷ []) c.put-c.ensures.taken c.put.ensures.taken)))
