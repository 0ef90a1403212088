use mathlib.Core.Path.{refl}
use Rattle.history.proofs.Facts.{eqb_no}
use Rattle.commands.specs.Rows.{choose}
use Rattle.commands.specs.Table.{act_in, change_rows}
use Rattle.commands.proofs.ActLaws.{changed-unknown}
use Rattle.commands.proofs.changes.change_group.Goals as goal

pub returns-in-10 : goal.returns-in-10
unfolding change_rows
returns-in-10 c =
    rw c.in-10.is c.new_call.ensures

pub returns-in-11 : goal.returns-in-11
unfolding change_rows
returns-in-11 c =
    rw c.in-11.is c.store_call.ensures

pub returns-in-12 : goal.returns-in-12
unfolding change_rows
returns-in-12 c =
    rw c.in-12.is c.grow_call.ensures

pub returns-in-13 : goal.returns-in-13
unfolding change_rows
returns-in-13 c =
    rw c.in-13.is c.map_change.ensures

pub returns-in_default : goal.returns-in_default
unfolding change_rows act_in choose
returns-in_default c = rw (eqb_no _ 10 c.in_default.in_default-own.rest.0.0.0.1, eqb_no _ 11 c.in_default.in_default-own.rest.0.0.1, eqb_no _ 12 c.in_default.in_default-own.rest.0.1, eqb_no _ 13 c.in_default.in_default-own.rest.1) (λ t. changed-unknown refl)
