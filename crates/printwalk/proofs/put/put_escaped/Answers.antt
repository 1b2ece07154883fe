use Rattle.printwalk.proofs.Bytes.{byte_room, slash_room, slash_wrote, plain_wrote}
use Rattle.printwalk.proofs.put.put_escaped.Goals as goal

pub put-at-requires : goal.put-at-requires
put-at-requires c = byte_room _ c.requires

pub put-requires : goal.put-requires
put-requires c =
    slash_room _ c.requires c.special.ensures c.put-at.ensures c.if-special.true

pub returns-then-special : goal.returns-then-special
returns-then-special c =
    slash_wrote _ c.requires c.special.ensures c.put-at.ensures c.if-special.true c.put.ensures

pub returns : goal.returns
returns c =
    plain_wrote _ c.requires c.special.ensures c.put-at.ensures c.if-special.false
