use mathlib.Core.Path.{◌∙◌, refl}
use mir.Facts.{to_z-of_z}
use Rattle.commands.specs.Rows.{choose}
use Rattle.commands.specs.Table.{act_in, new_rows}
use Rattle.commands.proofs.RowLaws.{no_row}
use Rattle.commands.proofs.ActLaws.{changed_known, changed-unknown}
use Rattle.commands.proofs.TurnLaws.{array-signed, integer-signed}
use mir.Syntax.{w64}
use Rattle.commands.proofs.changes.new_call.Goals as goal

pub returns-in-1 : goal.returns-in-1
unfolding act_in choose new_rows
returns-in-1 c =
    rw c.in-1.is (λ t. changed_known c.new_box.ensures c.made.ensures refl)

pub returns-in-2 : goal.returns-in-2
unfolding act_in choose new_rows
returns-in-2 c =
    rw c.in-2.is (λ t. changed_known c.new_array.ensures c.made-in-2.ensures (array-signed (to_z-of_z {w = w64} (record { sfits = c.signed_of-n.type_inv }) ∙ c.signed_of-n.ensures)))

pub returns-in-3 : goal.returns-in-3
unfolding act_in choose new_rows
returns-in-3 c =
    rw c.in-3.is (λ t. changed_known c.new_map.ensures c.made-in-3.ensures refl)

pub returns-in-5 : goal.returns-in-5
unfolding act_in choose new_rows
returns-in-5 c =
    rw c.in-5.is (λ t. changed_known c.new_integer.ensures c.made-in-5.ensures (integer-signed (to_z-of_z {w = w64} (record { sfits = c.signed_of-z.type_inv }) ∙ c.signed_of-z.ensures)))

pub returns-in-7 : goal.returns-in-7
unfolding act_in choose new_rows
returns-in-7 c =
    rw c.in-7.is (λ t. changed_known c.new_cell.ensures c.made-in-7.ensures refl)

pub returns-in-8 : goal.returns-in-8
unfolding act_in choose new_rows
returns-in-8 c =
    rw c.in-8.is (λ t. changed_known c.new_error.ensures c.made-in-8.ensures refl)

pub returns-in-13 : goal.returns-in-13
unfolding act_in choose new_rows
returns-in-13 c =
    rw c.in-13.is (λ t. changed_known c.new_iter.ensures c.made-in-13.ensures refl)

pub returns-in_default : goal.returns-in_default
unfolding new_rows
returns-in_default c = λ t. changed-unknown (no_row new_rows _ _ t c.in_default.in_default-own.rest)
