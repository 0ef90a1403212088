use mathlib.Core.Path.{refl}
use Rattle.commands.specs.Rows.{choose}
use Rattle.commands.specs.Table.{act_in, new_list_rows}
use Rattle.commands.proofs.RowLaws.{no_row}
use Rattle.commands.proofs.ActLaws.{changed-unknown}
use Rattle.commands.proofs.ActLaws.{changed_known}
use Rattle.commands.proofs.changes.new_with_list.Goals as goal

pub returns-in-4 : goal.returns-in-4
unfolding act_in choose new_list_rows
returns-in-4 c =
    rw c.in-4.is (λ places. changed_known c.new_string.ensures c.made.ensures refl)

pub returns-in-9 : goal.returns-in-9
unfolding act_in choose new_list_rows
returns-in-9 c =
    rw c.in-9.is (λ places. changed_known c.new_struct.ensures c.made-in-9.ensures refl)

pub returns-in-10 : goal.returns-in-10
unfolding act_in choose new_list_rows
returns-in-10 c =
    rw c.in-10.is (λ places. changed_known c.new_function.ensures c.made-in-10.ensures refl)

pub returns-in-14 : goal.returns-in-14
unfolding act_in choose new_list_rows
returns-in-14 c =
    rw c.in-14.is (λ places. c.coroutine_turn.ensures)

pub returns-in_default : goal.returns-in_default
unfolding new_list_rows
returns-in_default c = λ places. changed-unknown (no_row new_list_rows _ _ _ c.in_default.in_default-own.rest)
