use Rattle.std.proofs.Common.{sym, ◌∙◌}
use Rattle.map_store.proofs.Rooms.{len-small, live_small, stays-room}
use Rattle.map_store.proofs.Calls2.{insert_fitting, own_room, append-ready, insert-became}
use Rattle.map_store.proofs.MapStore.insert.Goals.{then-not-same_room, else-not-same_room}
use Rattle.map_store.proofs.MapStore.insert.Goals as goal

pub same_room-requires : goal.same_room-requires
same_room-requires c = let G = c.requires.good in (len-small _ _ G, live_small _ _ G)

pub settle-requires-clause-fitting : goal.settle-requires-clause-fitting
settle-requires-clause-fitting c = insert_fitting _ _ c.requires.good _ _ _ _ c.room_after_insert-room.ensures c.requires.room

pub append-requires-clause-room : goal.append-requires-clause-room
append-requires-clause-room c =
    let G = c.requires.good in
    elim c.if-not-same_room.branch [
      | then-not-same_room w ↦ rw w.self-is (append-ready _ _ G _ _ _ _ w.room_after_insert-room.ensures _ _ w.settle.ensures c.requires.number).1
      | else-not-same_room w ↦ rw w.self-is (append-ready _ _ G _ _ _ _ (stays-room _ _ G _ _ (sym c.same_room.ensures ∙ w.if-not-same_room.false)) _ _ (own_room _ _ G) c.requires.number).1
    ]

pub returns : goal.returns
returns c =
    let G = c.requires.good in
    elim c.if-not-same_room.branch [
      | then-not-same_room w ↦ insert-became _ _ G _ _ _ _ w.room_after_insert-room.ensures _ _ w.settle.ensures _ _ _ _ (rw (w.self-is, w.cells-is) at c.append.ensures)
      | else-not-same_room w ↦
          insert-became _ _ G _ _ _ _ (stays-room _ _ G _ _ (sym c.same_room.ensures ∙ w.if-not-same_room.false)) _ _ (own_room _ _ G) _ _ _ _ (rw (w.self-is, w.cells-is) at c.append.ensures)
    ]
