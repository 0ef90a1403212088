use mathlib.Core.Path.{refl}
use Rattle.commands.specs.Rows.{choose}
use Rattle.commands.specs.Table.{act_in, grow_rows}
use Rattle.commands.proofs.RowLaws.{no_row}
use Rattle.commands.proofs.ActLaws.{changed-unknown}
use Rattle.commands.proofs.ActLaws.{changed_known}
use Rattle.commands.proofs.changes.grow_call.Goals as goal

pub returns-in-19 : goal.returns-in-19
unfolding act_in choose grow_rows
returns-in-19 c =
    rw c.in-19.is (λ t. changed_known c.push.ensures c.answer.ensures refl)

pub returns-in-20 : goal.returns-in-20
unfolding act_in choose grow_rows
returns-in-20 c =
    rw c.in-20.is (λ t. changed_known c.pop.ensures c.answer-in-20.ensures refl)

pub returns-in-64 : goal.returns-in-64
unfolding act_in choose grow_rows
returns-in-64 c =
    rw c.in-64.is (λ t. changed_known c.iter_next.ensures c.answer-in-64.ensures refl)

pub returns-in-80 : goal.returns-in-80
unfolding act_in choose grow_rows
returns-in-80 c =
    rw c.in-80.is (λ t. changed_known c.charge.ensures c.answer-in-80.ensures refl)

pub returns-in_default : goal.returns-in_default
unfolding grow_rows
returns-in_default c = λ t. changed-unknown (no_row grow_rows _ _ t c.in_default.in_default-own.rest)
