use Rattle.std.proofs.Common.{◌≤◌, arith}
use Rattle.index.proofs.Begins.{eight_more, next_below, next_each, entry_made}
use Rattle.index.proofs.entry.Goals as goal

pub loop-j-preserved : goal.loop-j-preserved
loop-j-preserved c =
    let v = c.loop-j.invariant in
    let all = c.begun-all.ensures.0 in
    let more : c.begun-base.result ≤ c.begun-all.result = omega (arith, v.more, c.begun-all.ensures.1) in
    record {
      field = eight_more _ v.field;
      small = next_below _ c.requires.ready.good _ _ c.begun-base.ensures.0 _ _ c.loop-j-test.true v.small all more v.field;
      more = more;
      within = all.within;
      below = λ k h. omega (arith, all.below k h);
      each = next_each _ c.requires.ready.good _ _ c.begun-base.ensures.0 _ _ c.loop-j-test.true v.small all more v.field v.each;
    }

pub returns : goal.returns
returns c =
    let v = c.loop-j.invariant in
    entry_made _ c.requires.ready.laid _ _ _ _ c.begun-base.ensures.0 c.loop-j-test.false c.loop-j.auto.j-end v.small v.each
