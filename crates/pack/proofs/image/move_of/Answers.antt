use Rattle.words.specs.Image.{move}
use Rattle.pack.proofs.image.move_of.Goals as goal

pub returns : goal.returns
unfolding move
returns c = rw c.move_at.ensures.0 at c.word_at.ensures
