use mathlib.Core.Path.{refl}
use Rattle.commands.proofs.ActLaws.{changed_known}
use Rattle.commands.proofs.changes.coroutine_turn.Goals as goal

pub returns : goal.returns
returns c = changed_known c.new_coroutine_flat.ensures c.made.ensures refl
