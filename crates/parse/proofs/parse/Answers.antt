use mathlib.Core.Path.{refl, sym, ap, ◌∙◌}
use Rattle.parse.proofs.RunLaws.{parse_long, parse_wrong, parse_runs}
use Rattle.records.specs.Parse.{Ending, tree_after}
use Rattle.parse.proofs.parse.Goals as goal

pub returns-then-text-gt-LONGEST_TEXT : goal.returns-then-text-gt-LONGEST_TEXT
returns-then-text-gt-LONGEST_TEXT c =
    let e = parse_long _ _ c.args.tree.now _ c.if-text-gt-LONGEST_TEXT.true in
    record { value = c.refusal.ensures ∙ ap (λ (x : Ending). x.parsed) e; tree_after = rw (← e) refl }

pub returns-in-Err : goal.returns-in-Err
returns-in-Err c =
    let e = parse_wrong _ _ c.args.tree.now _ c.if-text-gt-LONGEST_TEXT.false _ c.in-Err.ensures in
    record { value = c.refusal-in-Err.ensures ∙ ap (λ (x : Ending). x.parsed) e; tree_after = rw (← e) refl }

pub run-requires : goal.run-requires
run-requires c = record { good_shape = sym c.in-Ok.ensures; text_len_bound = c.if-text-gt-LONGEST_TEXT.false }

pub returns-in-Ok : goal.returns-in-Ok
returns-in-Ok c =
    let e = parse_runs _ _ c.args.tree.now _ c.if-text-gt-LONGEST_TEXT.false c.in-Ok.ensures in
    record { value = c.run.ensures.value ∙ ap (λ (x : Ending). x.parsed) e; tree_after = c.run.ensures.tree_after ∙ ap (λ (x : Ending). tree_after c.args.tree.now x) e }
