-- `rows::read_production` meets its contract.
use mathlib.Core.Path.{◌∙◌}
use native.Mathlib.Omega.{arith}
use Prim.Native.Nat.{◌-◌}
use lib.ListN.{length, length-drop}
use Rattle.std.proofs.lemmas.List.{length-take}
use Rattle.fields.proofs.PartLaws.{matched}
use Rattle.rows.proofs.RowLaws.{put_last, no_left_side, no_right_side, production_there}
use Rattle.rows.proofs.read_production.Goals as goal

pub returns-in_err-rest : goal.returns-in_err-rest
returns-in_err-rest c = rw c.from_residual.ensures (no_left_side _ c.in_err-rest.ensures)

pub returns : goal.returns
returns c =
    let p = c.in_ok-rest.ensures in
    let e = put_last 1 (length c.read_field.new.row - 1) c.read_field.new.row c.read_symbols.new.row (omega arith) (c.read_symbols.auto.row ∙ simp (length-take, length-drop) (omega arith)) in
    matched _ c.read_symbols.ensures (no_right_side _ _ _ p) (λ r q. production_there _ _ _ p _ _ _ e q)
