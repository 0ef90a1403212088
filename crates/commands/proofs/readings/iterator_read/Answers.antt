use mathlib.Core.Path.{refl}
use Rattle.commands.specs.Rows.{choose}
use Rattle.commands.specs.Table.{act_in, iterator_rows}
use Rattle.commands.proofs.RowLaws.{no_row}
use Rattle.commands.proofs.ActLaws.{changed-unknown}
use Rattle.commands.proofs.ActLaws.{read_known}
use Rattle.commands.proofs.readings.iterator_read.Goals as goal

pub returns-in-65 : goal.returns-in-65
unfolding act_in choose iterator_rows
returns-in-65 c = rw c.in-65.is (λ t. read_known c.iter_key.ensures c.answer.ensures refl)

pub returns-in-66 : goal.returns-in-66
unfolding act_in choose iterator_rows
returns-in-66 c = rw c.in-66.is (λ t. read_known c.iter_source.ensures c.answer-in-66.ensures refl)

pub returns-in-67 : goal.returns-in-67
unfolding act_in choose iterator_rows
returns-in-67 c = rw c.in-67.is (λ t. read_known c.iter_key_type.ensures c.answer-in-67.ensures refl)

pub returns-in-68 : goal.returns-in-68
unfolding act_in choose iterator_rows
returns-in-68 c = rw c.in-68.is (λ t. read_known c.iter_ended.ensures c.answer-in-68.ensures refl)

pub returns-in-69 : goal.returns-in-69
unfolding act_in choose iterator_rows
returns-in-69 c = rw c.in-69.is (λ t. read_known c.iter_cursor.ensures c.answer-in-69.ensures refl)

pub returns-in_default : goal.returns-in_default
unfolding iterator_rows
returns-in_default c = λ t. changed-unknown (no_row iterator_rows _ _ t c.in_default.in_default-own.rest)
