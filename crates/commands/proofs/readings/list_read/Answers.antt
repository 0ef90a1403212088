use mathlib.Core.Path.{refl}
use Rattle.commands.specs.Rows.{choose}
use Rattle.commands.specs.Table.{act_in, list_rows}
use Rattle.commands.proofs.RowLaws.{no_row}
use Rattle.commands.proofs.ActLaws.{changed-unknown}
use Rattle.commands.proofs.ActLaws.{read_known}
use Rattle.commands.proofs.readings.list_read.Goals as goal

pub returns-in-16 : goal.returns-in-16
unfolding act_in choose list_rows
returns-in-16 c = rw c.in-16.is (λ t. read_known c.array_length.ensures c.answer.ensures refl)

pub returns-in-17 : goal.returns-in-17
unfolding act_in choose list_rows
returns-in-17 c = rw c.in-17.is (λ t. read_known c.read_item.ensures c.answer-in-17.ensures refl)

pub returns-in-45 : goal.returns-in-45
unfolding act_in choose list_rows
returns-in-45 c = rw c.in-45.is (λ t. read_known c.array_type.ensures c.answer-in-45.ensures refl)

pub returns-in-46 : goal.returns-in-46
unfolding act_in choose list_rows
returns-in-46 c = rw c.in-46.is (λ t. read_known c.array_capacity.ensures c.answer-in-46.ensures refl)

pub returns-in-24 : goal.returns-in-24
unfolding act_in choose list_rows
returns-in-24 c = rw c.in-24.is (λ t. read_known c.read_field.ensures c.answer-in-24.ensures refl)

pub returns-in-41 : goal.returns-in-41
unfolding act_in choose list_rows
returns-in-41 c = rw c.in-41.is (λ t. read_known c.struct_number.ensures c.answer-in-41.ensures refl)

pub returns-in-42 : goal.returns-in-42
unfolding act_in choose list_rows
returns-in-42 c = rw c.in-42.is (λ t. read_known c.field_count.ensures c.answer-in-42.ensures refl)

pub returns-in-26 : goal.returns-in-26
unfolding act_in choose list_rows
returns-in-26 c = rw c.in-26.is (λ t. read_known c.read_capture.ensures c.answer-in-26.ensures refl)

pub returns-in-43 : goal.returns-in-43
unfolding act_in choose list_rows
returns-in-43 c = rw c.in-43.is (λ t. c.function_read.ensures)

pub returns-in-44 : goal.returns-in-44
unfolding act_in choose list_rows
returns-in-44 c = rw c.in-44.is (λ t. read_known c.capture_count.ensures c.answer-in-44.ensures refl)

pub returns-in_default : goal.returns-in_default
unfolding list_rows
returns-in_default c = λ t. changed-unknown (no_row list_rows _ _ t c.in_default.in_default-own.rest)
