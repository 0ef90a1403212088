use Rattle.map_store.proofs.Steps.{Building}
use Rattle.map_store.proofs.index.Index.rebuild.Given as goal

abbrev pub invariant-loop-pos : goal.invariant-loop-pos
invariant-loop-pos l = Building l.initial.cells l.cells l.self.at l.self.len l.m l.pos
