use Rattle.printwalk.proofs.Walks.{leaf_end_room, leaf_bytes_room, leaf_begin_room, leaf_colon_room, leaf_number_room, leaf_wrote}
use Rattle.printwalk.proofs.put.put_leaf.Goals as goal

pub put-end-requires : goal.put-end-requires
put-end-requires c = leaf_end_room _ _ c.requires.room

pub put_bytes-begin-requires : goal.put_bytes-begin-requires
put_bytes-begin-requires c =
    leaf_bytes_room _ _ c.requires.room c.put-end.ensures c.leaf_bytes.ensures

pub put-bracket-requires : goal.put-bracket-requires
put-bracket-requires c =
    leaf_begin_room _ _ c.requires.room c.put-end.ensures c.leaf_bytes.ensures c.put_bytes-begin.ensures

pub put-colon-requires : goal.put-colon-requires
put-colon-requires c =
    leaf_colon_room _ _ c.requires.room c.put-end.ensures c.leaf_bytes.ensures c.put_bytes-begin.ensures c.put-bracket.ensures

pub put_number-requires : goal.put_number-requires
put_number-requires c =
    leaf_number_room _ _ c.requires.room c.put-end.ensures c.leaf_bytes.ensures c.put_bytes-begin.ensures c.put-bracket.ensures
    c.put-colon.ensures c.word.ensures

pub returns : goal.returns
returns c =
    leaf_wrote _ _ c.requires.room c.put-end.ensures c.leaf_bytes.ensures c.put_bytes-begin.ensures c.put-bracket.ensures
    c.put-colon.ensures c.word.ensures c.put_number.ensures
