-- `hexset::set_words` meets its contract.
use Rattle.text.specs.Fields.{words_of}
use native.Mathlib.Numerals.{add-one, add-two, add-three}
use Rattle.hexset.proofs.HexLaws.{stored}
use Rattle.hexset.proofs.set_words.Goals as goal

pub returns : goal.returns
unfolding words_of
returns c = simp (add-one, add-two, add-three) (stored c.args.img.now _ c.args.words c.requires)
