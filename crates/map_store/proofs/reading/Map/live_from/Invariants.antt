use Rattle.map_store.proofs.Calls.{Seeking}
use Rattle.map_store.proofs.reading.Map.live_from.Given as goal

abbrev pub invariant-loop-pos : goal.invariant-loop-pos
invariant-loop-pos l = Seeking l.self.cells.now l.self.store.len l.p l.pos
