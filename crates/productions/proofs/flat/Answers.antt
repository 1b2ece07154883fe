use mathlib.Core.Path.{sym, ◌∙◌}
use native.Mathlib.Omega.{arith}
use Rattle.productions.proofs.Sound.{flat_good}
use Rattle.productions.proofs.flat.Goals as goal

pub returns : goal.returns
returns c =
    let z = c.requires.layout_set in
    λ x. flat_good c.args.img.now c.requires.laid (rw z at c.ranges.set.fits) _ _ _ (omega (arith, c.terminals.ensures)) c.nonterminals-n.ensures
    (rw z at c.lowest-layout.ensures) (rw z at (sym c.several.ensures ∙ c.if-several.false)) _ _ c.prod_start-start.ensures c.act_start-end.ensures
    c.no_symbols-most.ensures (c.heads.ensures x)
