use native.Mathlib.Omega.{arith}
use Rattle.printwalk.proofs.Bytes.{one_room, one_wrote, digit_room, digits_room, digits_wrote}
use Rattle.printwalk.proofs.put.+put_number.Goals as goal

pub put-requires : goal.put-requires
put-requires t c = one_room _ c.requires c.if-n-lt10.true c.digit_byte.ensures

pub returns-then-n-lt10 : goal.returns-then-n-lt10
returns-then-n-lt10 t c = one_wrote _ c.requires c.if-n-lt10.true c.digit_byte.ensures c.put.ensures

pub put-at-requires : goal.put-at-requires
put-at-requires t c = digit_room _ c.requires c.if-n-lt10.false c.digit_byte-2.ensures

pub put_number-requires : goal.put_number-requires
put_number-requires t c =
    (rw (← c.decreases) (omega (arith, c.if-n-lt10.false)), digits_room _ c.requires c.if-n-lt10.false c.digit_byte-2.ensures c.put-at.ensures)

pub returns : goal.returns
returns t c = digits_wrote _ c.requires c.if-n-lt10.false c.digit_byte-2.ensures c.put-at.ensures c.put_number.ensures
