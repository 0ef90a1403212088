use Rattle.std.proofs.Common.{sym, ◌∙◌, arith}
use Rattle.map_store.proofs.Rooms.{len-small, live_small, stays-room, hashed_sized, insert-packed, insert-hashed}
use Rattle.map_store.proofs.reading.Map.room_after_insert.Goals as goal

pub same_room-requires : goal.same_room-requires
same_room-requires c = let G = c.args.self.now.good in (len-small _ _ G, live_small _ _ G)

pub returns-then-same_room : goal.returns-then-same_room
returns-then-same_room c = rw c.room.ensures (stays-room _ _ c.args.self.now.good _ _ (sym c.same_room.ensures ∙ c.if-same_room.true))

pub hashed_index-requires : goal.hashed_index-requires
hashed_index-requires c = live_small _ _ c.args.self.now.good

pub doubled_index-index-requires : goal.doubled_index-index-requires
doubled_index-index-requires c =
    let G = c.args.self.now.good in
    (live_small _ _ G, omega (arith, c.hashed_index.ensures, (hashed_sized _ _ G).1))

pub returns-then-stays_packed : goal.returns-then-stays_packed
returns-then-stays_packed c = insert-packed _ _ c.args.self.now.good _ _ _ _ c.grown-capacity.ensures c.stays_packed.ensures c.if-stays_packed.true

pub returns : goal.returns
returns c = insert-hashed _ _ c.args.self.now.good _ _ _ _ _ _ c.grown-capacity.ensures c.stays_packed.ensures c.if-stays_packed.false c.hashed_index.ensures c.doubled_index-index.ensures
