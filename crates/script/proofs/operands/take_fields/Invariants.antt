use mathlib.Core.Path.{◌≡◌}
use lib.ListN.{length}
use Rattle.script.proofs.ParseLaws.{Parsing}
use Rattle.script.proofs.operands.take_fields.Given as goal

abbrev pub invariant-loop-rest : goal.invariant-loop-rest
invariant-loop-rest l = Parsing l.command l.input l.at l.numbers l.words l.t l.rest × ((length l.numbers ≡ length l.initial.numbers) × (length l.words ≡ length l.initial.words))

abbrev pub decreases-loop-rest : goal.decreases-loop-rest
decreases-loop-rest l = l.rest
