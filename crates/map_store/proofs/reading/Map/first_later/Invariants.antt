use Rattle.map_store.specs.LaterLaws.{Passed}
use Rattle.map_store.specs.View.{entries_in}
use Rattle.map_store.proofs.reading.Map.first_later.Given as goal

abbrev pub invariant-loop-pos : goal.invariant-loop-pos
invariant-loop-pos l = Passed l.q l.pos (entries_in l.self.cells.now 0 l.self.store.len)
