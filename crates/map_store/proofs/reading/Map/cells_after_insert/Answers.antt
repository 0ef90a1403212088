use Rattle.map_store.proofs.Calls2.{insert_bounds}
use Rattle.map_store.proofs.reading.Map.cells_after_insert.Goals as goal

pub cells-requires : goal.cells-requires
cells-requires c = insert_bounds _ _ c.args.self.now.good _ _ _ _ c.room_after_insert.ensures
