use Rattle.heap.specs.Answers.{seen_by}
use mathlib.Core.Path.{refl}
use Rattle.commands.specs.Rows.{choose}
use Rattle.commands.specs.Table.{act_in, plain_rows}
use Rattle.commands.proofs.RowLaws.{no_row}
use Rattle.commands.proofs.ActLaws.{changed-unknown}
use Rattle.commands.proofs.ActLaws.{read_known}
use Rattle.commands.proofs.readings.plain_read.Goals as goal

pub returns-in-6 : goal.returns-in-6
unfolding act_in choose plain_rows
returns-in-6 c = rw c.in-6.is (λ t. read_known c.read_box.ensures c.answer.ensures refl)

pub returns-in-22 : goal.returns-in-22
unfolding act_in choose plain_rows
returns-in-22 c = rw c.in-22.is (λ t. read_known c.read_cell.ensures c.answer-in-22.ensures refl)

pub returns-in-47 : goal.returns-in-47
unfolding act_in choose plain_rows
returns-in-47 c = rw c.in-47.is (λ t. read_known c.cell_type.ensures c.answer-in-47.ensures refl)

pub returns-in-34 : goal.returns-in-34
unfolding act_in choose plain_rows
returns-in-34 c = rw c.in-34.is (λ t. read_known c.error_kind.ensures c.answer-in-34.ensures refl)

pub returns-in-35 : goal.returns-in-35
unfolding act_in choose plain_rows
returns-in-35 c = rw c.in-35.is (λ t. read_known c.error_word.ensures c.answer-in-35.ensures refl)

pub returns-in-36 : goal.returns-in-36
unfolding act_in choose plain_rows
returns-in-36 c = rw c.in-36.is (λ t. read_known c.read_integer.ensures c.answer-in-36.ensures refl)

pub returns-in-37 : goal.returns-in-37
unfolding act_in choose plain_rows
returns-in-37 c = rw c.in-37.is (λ t. read_known c.string_length.ensures c.answer-in-37.ensures refl)

pub returns-in-39 : goal.returns-in-39
unfolding act_in choose plain_rows seen_by
returns-in-39 c = rw c.in-39.is (λ t. read_known c.get.ensures c.answer-in-39.ensures refl)

pub returns-in-40 : goal.returns-in-40
unfolding act_in choose plain_rows seen_by
returns-in-40 c = rw c.in-40.is (λ t. read_known c.deref.ensures c.answer-in-40.ensures refl)

pub returns-in-78 : goal.returns-in-78
unfolding act_in choose plain_rows seen_by
returns-in-78 c = rw c.in-78.is (λ t. read_known c.kind_of.ensures c.answer-in-78.ensures refl)

pub returns-in_default : goal.returns-in_default
unfolding plain_rows
returns-in_default c = λ t. changed-unknown (no_row plain_rows _ _ t c.in_default.in_default-own.rest)
