use mathlib.Core.Path.{◌∙◌, refl}
use mir.Facts.{to_z-of_z}
use Rattle.commands.specs.Rows.{choose}
use Rattle.commands.specs.Table.{act_in, map_change_rows}
use Rattle.commands.proofs.RowLaws.{no_row}
use Rattle.commands.proofs.ActLaws.{changed_known, changed-unknown}
use Rattle.commands.proofs.TurnLaws.{note-signed}
use mir.Syntax.{w64}
use Rattle.commands.proofs.changes.map_change.Goals as goal

pub returns-in-48 : goal.returns-in-48
unfolding act_in choose map_change_rows
returns-in-48 c =
    rw c.in-48.is (λ t. changed_known c.put.ensures c.answer.ensures refl)

pub returns-in-59 : goal.returns-in-59
unfolding act_in choose map_change_rows
returns-in-59 c =
    rw c.in-59.is (λ t. changed_known c.insert_entry-r.ensures c.answer-in-59.ensures refl)

pub returns-in-50 : goal.returns-in-50
unfolding act_in choose map_change_rows
returns-in-50 c =
    rw c.in-50.is (λ t. changed_known c.remove.ensures c.answer-in-50.ensures refl)

pub returns-in-52 : goal.returns-in-52
unfolding act_in choose map_change_rows
returns-in-52 c =
    rw c.in-52.is (λ t. changed_known c.set_value.ensures c.answer-in-52.ensures refl)

pub returns-in-53 : goal.returns-in-53
unfolding act_in choose map_change_rows
returns-in-53 c =
    rw c.in-53.is (λ t. changed_known c.remove_at.ensures c.answer-in-53.ensures refl)

pub returns-in-56 : goal.returns-in-56
unfolding act_in choose map_change_rows
returns-in-56 c =
    rw c.in-56.is (λ t. changed_known c.note.ensures c.answer-in-56.ensures (note-signed (to_z-of_z {w = w64} (record { sfits = c.signed_of-z.type_inv }) ∙ c.signed_of-z.ensures)))

pub returns-in_default : goal.returns-in_default
unfolding map_change_rows
returns-in_default c = λ t. changed-unknown (no_row map_change_rows _ _ t c.in_default.in_default-own.rest)
