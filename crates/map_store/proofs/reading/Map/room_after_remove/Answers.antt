use Rattle.map_store.proofs.Rooms.{live_small, remove_room}
use Rattle.map_store.proofs.reading.Map.room_after_remove.Goals as goal

pub hashed_index-requires : goal.hashed_index-requires
hashed_index-requires c = live_small _ _ c.args.self.now.good

pub returns : goal.returns
returns c = remove_room _ _ c.args.self.now.good _ c.hashed_index.ensures
