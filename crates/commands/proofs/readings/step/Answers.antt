use mathlib.Core.Path.{refl}
use Rattle.commands.proofs.ActLaws.{read_known}
use Rattle.commands.proofs.readings.step.Goals as goal

pub returns : goal.returns
returns c = rw (← c.cursor_in-c.ensures) (read_known c.step_cursor.ensures c.moved.ensures refl)
