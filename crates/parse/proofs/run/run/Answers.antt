use Rattle.std.proofs.Common.{refl, Ok, Err}
use Rattle.records.specs.Inner.{standing}
use Rattle.parse.proofs.RunLaws.{turning_starts, turns_on, turns_end, turns_tree, told_accepted, told_refused}
use Rattle.shape.proofs.Good.{good_laid}
use Rattle.parse.proofs.run.run.Goals as goal

pub loop-parser-init : goal.loop-parser-init
loop-parser-init c = turning_starts _ _ _ _ _ (good_laid _ c.requires.good_shape) c.room_of.ensures c.new.ensures refl refl

pub turn-requires-clause-ready : goal.turn-requires-clause-ready
turn-requires-clause-ready c = record { laid = good_laid _ c.requires.good_shape; good = c.requires.good_shape }

pub loop-parser-preserved : goal.loop-parser-preserved
loop-parser-preserved c = turns_on _ _ _ _ _ _ _ c.loop-parser.invariant _ _ c.turn.new.parser c.turn.ensures.result_after c.turn.ensures.kept_turn (cc)

pub returns-in-Ok-Accepted-clause-value : goal.returns-in-Ok-Accepted-clause-value
returns-in-Ok-Accepted-clause-value c =
    turns_end _ _ _ _ _ _ _ c.loop-parser.invariant _ _ c.turn.new.parser c.turn.ensures.result_after c.turn.ensures.kept_turn (Ok tt) (told_accepted (standing c.turn.new.parser c.turn.new.tree) (cc)) c.finish.ensures

pub returns-in-Ok-Accepted-clause-tree_after : goal.returns-in-Ok-Accepted-clause-tree_after
returns-in-Ok-Accepted-clause-tree_after c =
    turns_tree _ _ _ _ _ _ _ c.loop-parser.invariant _ _ c.turn.new.parser c.turn.ensures.result_after c.turn.ensures.kept_turn (Ok tt) (told_accepted (standing c.turn.new.parser c.turn.new.tree) (cc))

pub returns-in-Err-clause-value : goal.returns-in-Err-clause-value
returns-in-Err-clause-value c =
    turns_end _ _ _ _ _ _ _ c.loop-parser.invariant _ _ c.turn.new.parser c.turn.ensures.result_after c.turn.ensures.kept_turn (Err _) (told_refused (standing c.turn.new.parser c.turn.new.tree) _ c.in-Err.is) c.finish-in-Err.ensures

pub returns-in-Err-clause-tree_after : goal.returns-in-Err-clause-tree_after
returns-in-Err-clause-tree_after c =
    turns_tree _ _ _ _ _ _ _ c.loop-parser.invariant _ _ c.turn.new.parser c.turn.ensures.result_after c.turn.ensures.kept_turn (Err _) (told_refused (standing c.turn.new.parser c.turn.new.tree) _ c.in-Err.is)
