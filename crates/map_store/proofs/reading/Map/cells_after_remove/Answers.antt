use Rattle.std.proofs.Common.{arith}
use Rattle.map_store.proofs.Calls2.{remove_bounds}
use Rattle.map_store.proofs.reading.Map.cells_after_remove.Goals as goal

pub cells-requires : goal.cells-requires
cells-requires c = let b = remove_bounds _ _ c.args.self.now.good _ _ c.room_after_remove.ensures in (omega arith, omega arith)
