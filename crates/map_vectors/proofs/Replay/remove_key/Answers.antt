use Rattle.map_store.specs.GoodLaws.{key-cells}
use Rattle.map_vectors.proofs.Replay.remove_key.Goals as goal

pub remove_key-requires-clause-room : goal.remove_key-requires-clause-room
remove_key-requires-clause-room c = key-cells _ _ _ _ _ c.args.self.now.good (rw (c.cells_after_remove.ensures, c.map.ensures.0, c.map.ensures.1) at c.if-cells_after_remove-self.true)
