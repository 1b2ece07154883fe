use native.Mathlib.Omega.{arith}
use Rattle.putlines.proofs.Bounds.{text_most}
use Rattle.writer.proofs.text_size.Goals as goal

pub write_text-requires : goal.write_text-requires
write_text-requires c = (c.requires, text_most c.args.img.now (λ i. omega (arith, c.type_inv.img i)) c.args.form c.requires)
