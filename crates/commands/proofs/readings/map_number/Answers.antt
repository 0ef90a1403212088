use mathlib.Core.Path.{refl}
use Rattle.commands.specs.Rows.{choose}
use Rattle.commands.specs.Table.{act_in, map_number_rows}
use Rattle.commands.proofs.RowLaws.{no_row}
use Rattle.commands.proofs.ActLaws.{changed-unknown}
use Rattle.commands.proofs.ActLaws.{read_known}
use Rattle.commands.proofs.readings.map_number.Goals as goal

pub returns-in-62 : goal.returns-in-62
unfolding act_in choose map_number_rows
returns-in-62 c = rw c.in-62.is (λ t. read_known c.key_type.ensures c.answer.ensures refl)

pub returns-in-63 : goal.returns-in-63
unfolding act_in choose map_number_rows
returns-in-63 c = rw c.in-63.is (λ t. read_known c.value_type.ensures c.answer-in-63.ensures refl)

pub returns-in-72 : goal.returns-in-72
unfolding act_in choose map_number_rows
returns-in-72 c = rw c.in-72.is (λ t. read_known c.map_epoch.ensures c.answer-in-72.ensures refl)

pub returns-in-73 : goal.returns-in-73
unfolding act_in choose map_number_rows
returns-in-73 c = rw c.in-73.is (λ t. read_known c.next_sequence.ensures c.answer-in-73.ensures refl)

pub returns-in-74 : goal.returns-in-74
unfolding act_in choose map_number_rows
returns-in-74 c = rw c.in-74.is (λ t. read_known c.noted_key.ensures c.noted.ensures refl)

pub returns-in-75 : goal.returns-in-75
unfolding act_in choose map_number_rows
returns-in-75 c = rw c.in-75.is (λ t. read_known c.entry_capacity.ensures c.answer-in-75.ensures refl)

pub returns-in-76 : goal.returns-in-76
unfolding act_in choose map_number_rows
returns-in-76 c = rw c.in-76.is (λ t. read_known c.index_length.ensures c.answer-in-76.ensures refl)

pub returns-in_default : goal.returns-in_default
unfolding map_number_rows
returns-in_default c = λ t. changed-unknown (no_row map_number_rows _ _ t c.in_default.in_default-own.rest)
