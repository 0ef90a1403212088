use Rattle.heap_cells.specs.Regions.{Shifted}
use Rattle.heap_cells.proofs.shift.Given as goal

abbrev pub invariant-loop-k : goal.invariant-loop-k
invariant-loop-k l = Shifted l.n l.first l.k l.by l.initial.slots l.slots
