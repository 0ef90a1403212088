use mathlib.Core.Path.{refl}
use Rattle.commands.specs.Rows.{choose}
use Rattle.commands.specs.Table.{act_in, map_rows}
use Rattle.commands.proofs.RowLaws.{no_row}
use Rattle.commands.proofs.ActLaws.{changed-unknown}
use Rattle.commands.proofs.ActLaws.{read_known}
use Rattle.commands.proofs.readings.map_read.Goals as goal

pub returns-in-49 : goal.returns-in-49
unfolding act_in choose map_rows
returns-in-49 c = rw c.in-49.is (λ t. read_known c.find.ensures c.answer.ensures refl)

pub returns-in-51 : goal.returns-in-51
unfolding act_in choose map_rows
returns-in-51 c = rw c.in-51.is (λ t. read_known c.read_entry.ensures c.answer-in-51.ensures refl)

pub returns-in-54 : goal.returns-in-54
unfolding act_in choose map_rows
returns-in-54 c = rw c.in-54.is (λ t. read_known c.live_count.ensures c.answer-in-54.ensures refl)

pub returns-in-55 : goal.returns-in-55
unfolding act_in choose map_rows
returns-in-55 c = rw c.in-55.is (λ t. read_known c.is_hashed.ensures c.answer-in-55.ensures refl)

pub returns-in-57 : goal.returns-in-57
unfolding act_in choose map_rows
returns-in-57 c = rw c.in-57.is (λ t. read_known c.next_key.ensures c.next_int.ensures refl)

pub returns-in-58 : goal.returns-in-58
unfolding act_in choose map_rows
returns-in-58 c = rw c.in-58.is (λ t. c.step.ensures)

pub returns-in-60 : goal.returns-in-60
unfolding act_in choose map_rows
returns-in-60 c = rw c.in-60.is (λ t. read_known c.growth_bytes.ensures c.answer-in-60.ensures refl)

pub returns-in-61 : goal.returns-in-61
unfolding act_in choose map_rows
returns-in-61 c = rw c.in-61.is (λ t. read_known c.place_count.ensures c.answer-in-61.ensures refl)

pub returns-in_default : goal.returns-in_default
unfolding map_rows
returns-in_default c = λ t. changed-unknown (no_row map_rows _ _ t c.in_default.in_default-own.rest)
