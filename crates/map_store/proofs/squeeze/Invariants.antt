use Rattle.map_store.proofs.Steps.{Squeezing}
use Rattle.map_store.proofs.squeeze.Given as goal

abbrev pub invariant-loop-pos : goal.invariant-loop-pos
invariant-loop-pos l = Squeezing l.initial.cells l.cells l.m l.pos l.left
