use Rattle.std.proofs.Common.{arith}
use Rattle.map_store.proofs.Rooms.{live_small, capacity-small}
use Rattle.map_store.proofs.Changes.{append-packed, append-able, append-hashed}
use Rattle.map_store.proofs.MapStore.append.Goals.{then-self, else-self}
use Rattle.map_store.proofs.MapStore.append.Goals as goal

pub place-requires-clause-mapped : goal.place-requires-clause-mapped
place-requires-clause-mapped c =
    rw (c.places.ensures, c.write_entry.ensures) (append-able _ _ _ _ _ c.requires.good c.requires.room.0 c.if-self.true (c.requires.room.2 c.if-self.true)).0

pub place-requires-clause-entry : goal.place-requires-clause-entry
place-requires-clause-entry c =
    rw (c.places.ensures, c.write_entry.ensures) (append-able _ _ _ _ _ c.requires.good c.requires.room.0 c.if-self.true (c.requires.room.2 c.if-self.true)).1.0

pub place-requires-clause-room : goal.place-requires-clause-room
place-requires-clause-room c =
    rw (c.places.ensures, c.write_entry.ensures) (append-able _ _ _ _ _ c.requires.good c.requires.room.0 c.if-self.true (c.requires.room.2 c.if-self.true)).1.1

pub overflow_add-self-2 : goal.overflow_add-self-2
overflow_add-self-2 c = record { fits = omega (arith, live_small _ _ c.requires.good) }

pub returns : goal.returns
returns c =
    let G = c.requires.good in
    elim c.if-self.branch [
      | then-self w ↦
          (let P = rw (w.places.ensures, c.write_entry.ensures) at w.place.ensures in
          rw w.cells-is (append-hashed _ _ _ _ _ G c.requires.room.0 w.if-self.true (c.requires.room.2 w.if-self.true) c.requires.room.1 _ P.mapped P.frame P.room))
      | else-self w ↦ rw (w.cells-is, c.write_entry.ensures) (append-packed _ _ _ _ _ G c.requires.room.0 c.requires.room.1 w.if-self.false)
    ]
