use Rattle.heap_cells.specs.Regions.{Packed}
use Rattle.heap_cells.proofs.compact.Given as goal

abbrev pub invariant-loop-k : goal.invariant-loop-k
invariant-loop-k l = Packed l.n l.t.entries l.k l.p.cells l.p.entries l.initial.slots l.initial.dir l.initial.cells l.slots l.dir l.cells
