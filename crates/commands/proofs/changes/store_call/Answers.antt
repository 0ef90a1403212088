use mathlib.Core.Path.{refl}
use Rattle.commands.specs.Rows.{choose}
use Rattle.commands.specs.Table.{act_in, store_rows}
use Rattle.commands.proofs.RowLaws.{no_row}
use Rattle.commands.proofs.ActLaws.{changed-unknown}
use Rattle.commands.proofs.ActLaws.{changed_known}
use Rattle.commands.proofs.changes.store_call.Goals as goal

pub returns-in-18 : goal.returns-in-18
unfolding act_in choose store_rows
returns-in-18 c =
    rw c.in-18.is (λ t. changed_known c.store_item.ensures c.answer.ensures refl)

pub returns-in-21 : goal.returns-in-21
unfolding act_in choose store_rows
returns-in-21 c =
    rw c.in-21.is (λ t. changed_known c.store_box.ensures c.answer-in-21.ensures refl)

pub returns-in-23 : goal.returns-in-23
unfolding act_in choose store_rows
returns-in-23 c =
    rw c.in-23.is (λ t. changed_known c.store_cell.ensures c.answer-in-23.ensures refl)

pub returns-in-25 : goal.returns-in-25
unfolding act_in choose store_rows
returns-in-25 c =
    rw c.in-25.is (λ t. changed_known c.store_field.ensures c.answer-in-25.ensures refl)

pub returns-in-27 : goal.returns-in-27
unfolding act_in choose store_rows
returns-in-27 c =
    rw c.in-27.is (λ t. changed_known c.store_capture.ensures c.answer-in-27.ensures refl)

pub returns-in-29 : goal.returns-in-29
unfolding act_in choose store_rows
returns-in-29 c =
    rw c.in-29.is (λ t. changed_known c.store_register.ensures c.answer-in-29.ensures refl)

pub returns-in-31 : goal.returns-in-31
unfolding act_in choose store_rows
returns-in-31 c =
    rw c.in-31.is (λ t. changed_known c.set_state.ensures c.answer-in-31.ensures refl)

pub returns-in-33 : goal.returns-in-33
unfolding act_in choose store_rows
returns-in-33 c =
    rw c.in-33.is (λ t. c.part_store.ensures)

pub returns-in_default : goal.returns-in_default
unfolding store_rows
returns-in_default c = λ t. changed-unknown (no_row store_rows _ _ t c.in_default.in_default-own.rest)
