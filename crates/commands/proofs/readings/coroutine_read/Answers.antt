use mathlib.Core.Path.{refl}
use Rattle.commands.specs.Rows.{choose}
use Rattle.commands.specs.Table.{act_in, coroutine_rows}
use Rattle.commands.proofs.RowLaws.{no_row}
use Rattle.commands.proofs.ActLaws.{changed-unknown}
use Rattle.commands.proofs.ActLaws.{read_known}
use Rattle.commands.proofs.readings.coroutine_read.Goals as goal

pub returns-in-28 : goal.returns-in-28
unfolding act_in choose coroutine_rows
returns-in-28 c = rw c.in-28.is (λ t. read_known c.read_register.ensures c.answer.ensures refl)

pub returns-in-30 : goal.returns-in-30
unfolding act_in choose coroutine_rows
returns-in-30 c = rw c.in-30.is (λ t. read_known c.read_state.ensures c.answer-in-30.ensures refl)

pub returns-in-32 : goal.returns-in-32
unfolding act_in choose coroutine_rows
returns-in-32 c = rw c.in-32.is (λ t. c.coroutine_part.ensures)

pub returns-in-77 : goal.returns-in-77
unfolding act_in choose coroutine_rows
returns-in-77 c = rw c.in-77.is (λ t. read_known c.read_frame.ensures c.answer-in-77.ensures refl)

pub returns-in_default : goal.returns-in_default
unfolding coroutine_rows
returns-in_default c = λ t. changed-unknown (no_row coroutine_rows _ _ t c.in_default.in_default-own.rest)
