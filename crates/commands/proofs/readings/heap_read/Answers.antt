use Rattle.heap.specs.Answers.{seen_by}
use mathlib.Core.Path.{refl}
use Rattle.commands.specs.Rows.{choose}
use Rattle.commands.specs.Table.{act_in, heap_rows}
use Rattle.commands.proofs.RowLaws.{no_row}
use Rattle.commands.proofs.ActLaws.{changed-unknown}
use Rattle.commands.proofs.ActLaws.{read_known}
use Rattle.commands.proofs.readings.heap_read.Goals as goal

pub returns-in-81 : goal.returns-in-81
unfolding act_in choose heap_rows seen_by
returns-in-81 c = rw c.in-81.is (λ t. read_known c.wants_gc.ensures c.answer.ensures refl)

pub returns-in-82 : goal.returns-in-82
unfolding act_in choose heap_rows seen_by
returns-in-82 c = rw c.in-82.is (λ t. read_known c.fits.ensures c.answer-in-82.ensures refl)

pub returns-in-83 : goal.returns-in-83
unfolding act_in choose heap_rows seen_by
returns-in-83 c = rw c.in-83.is (λ t. read_known c.collection_count.ensures c.answer-in-83.ensures refl)

pub returns-in-84 : goal.returns-in-84
unfolding act_in choose heap_rows seen_by
returns-in-84 c = rw c.in-84.is (λ t. read_known c.freed_count.ensures c.answer-in-84.ensures refl)

pub returns-in-85 : goal.returns-in-85
unfolding act_in choose heap_rows seen_by
returns-in-85 c = rw c.in-85.is (λ t. read_known c.present_count.ensures c.answer-in-85.ensures refl)

pub returns-in-86 : goal.returns-in-86
unfolding act_in choose heap_rows seen_by
returns-in-86 c = rw c.in-86.is (λ t. read_known c.cells_in_use.ensures c.answer-in-86.ensures refl)

pub returns-in_default : goal.returns-in_default
unfolding heap_rows
returns-in_default c = λ t. changed-unknown (no_row heap_rows _ _ t c.in_default.in_default-own.rest)
