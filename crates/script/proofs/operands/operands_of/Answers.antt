use mathlib.Core.Path.{refl}
use Rattle.script.specs.Parse.{operands_of}
use Rattle.script.proofs.operands.operands_of.Goals as goal

pub returns : goal.returns
unfolding operands_of
returns c = refl
