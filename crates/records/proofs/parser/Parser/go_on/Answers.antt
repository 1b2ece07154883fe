use Rattle.std.proofs.Common.{arith, refl}
use Rattle.std.proofs.lemmas.Result.{err_from_is_err_and}
use Rattle.records.proofs.ActLaws.{refused_told, went_told, words_on, rest_on, length_put}
use Rattle.records.specs.Inner.{standing}
use Rattle.records.proofs.parser.Parser.go_on.Goals as goal

pub returns-in_err-full-clause-result_after : goal.returns-in_err-full-clause-result_after
returns-in_err-full-clause-result_after c =
    let p = err_from_is_err_and c.from_residual.result c.from_residual.ensures.1 in
    rw (p.1, p.2) (refused_told (standing c.args.self.now c.args.tree.now) c.args.words _ _ c.args.dropped c.args.state _ c.requires.dropped_bound (rw c.height.ensures.value at c.in_err-full.ensures.value))

pub returns-clause-result_after : goal.returns-clause-result_after
returns-clause-result_after c =
    let fits = c.in_ok-full.ensures.fits in
    went_told (standing c.args.self.now c.args.tree.now) c.args.words _ _ c.args.dropped c.args.state _ c.requires.dropped_bound
    _ fits.0 (omega (arith, fits)) c.replace.ensures (rw c.put.ensures (words_on c.args.tree.now c.args.words c.args.self.now.records (omega arith) (omega (arith, fits)))) refl

pub returns-clause-kept : goal.returns-clause-kept
returns-clause-kept c =
    let fits = c.in_ok-full.ensures.fits in
    record {
      room = refl;
      place = omega arith;
      moves = refl;
      rest = rw c.put.ensures (rest_on c.args.tree.now c.args.words c.args.self.now.records (omega arith) (omega (arith, fits)));
      whole = rw c.put.ensures (length_put c.args.tree.now _ c.args.words (omega arith) (omega (arith, fits)));
      grown = omega arith;
      more = λ f. refl;
      unchanged = λ f. absurd (f refl);
    }
