use Rattle.script.specs.Replay.{numbered}
use Rattle.script.proofs.LendLaws.{Filling}
use Rattle.script.proofs.number_places.Given as goal

abbrev pub invariant-loop-i : goal.invariant-loop-i
invariant-loop-i l = Filling numbered l.initial.places l.n l.places l.i
