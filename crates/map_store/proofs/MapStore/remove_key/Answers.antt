use Rattle.std.proofs.Common.{sym, ap, ◌∙◌}
use Rattle.map_store.specs.View.{seek_is}
use Rattle.map_store.proofs.Rooms.{len-small}
use Rattle.map_store.proofs.Calls.{find-by-hash, find-traced, find-place, find-no-place}
use Rattle.map_store.proofs.Calls2.{hashed_already, remove-live, key_absent, key-room, key-found}
use Rattle.map_store.proofs.MapStore.remove_key.Goals.{else-not-traced-via-then-not-traced+else-key-self, else-not-traced-via-else-not-traced}
use Rattle.map_store.proofs.MapStore.remove_key.Goals as goal

pub remove-requires-clause-room : goal.remove-requires-clause-room
remove-requires-clause-room c =
    let e = find-place c.args.self.now c.args.cells.now c.args.traced c.args.hash c.args.key c.if-self.false c.if-not-traced.true (len-small _ _ c.requires.good) c.if-key-self.true in
    rw (key-room c.args.self.now c.args.cells.now c.args.traced c.args.hash c.args.key c.args.key e) c.requires.room

pub returns-in-Some : goal.returns-in-Some
returns-in-Some c =
    let G = c.requires.good in
    let S = rw c.in-Some.is at c.seek.ensures in
    let e = S.answer ∙ find-by-hash c.args.self.now c.args.cells.now c.args.traced c.args.hash c.args.key c.if-self.true in
    key-found _ _ _ _ _ _ e _ _ (remove-live _ _ _ _ _ (hashed_already _ _ G c.if-self.true) _ S.seat.2 _ _ c.take.ensures)

pub returns-in_default : goal.returns-in_default
returns-in_default c =
    let S = rw c.in_default.is at c.seek.ensures in
    key_absent _ _ _ _ _ c.requires.good (S.answer ∙ find-by-hash c.args.self.now c.args.cells.now c.args.traced c.args.hash c.args.key c.if-self.true)

pub returns-then-key-self : goal.returns-then-key-self
returns-then-key-self c =
    let e = find-place c.args.self.now c.args.cells.now c.args.traced c.args.hash c.args.key c.if-self.false c.if-not-traced.true (len-small _ _ c.requires.good) c.if-key-self.true in
    key-found _ _ _ _ _ _ e _ _ c.remove.ensures

pub returns-else-not-traced : goal.returns-else-not-traced
returns-else-not-traced c =
    elim c.else-not-traced.branch [
      | else-not-traced-via-then-not-traced+else-key-self w ↦
          key_absent _ _ _ _ _ c.requires.good (find-no-place c.args.self.now c.args.cells.now c.args.traced c.args.hash c.args.key c.if-self.false w.if-not-traced.true w.if-key-self.false)
      | else-not-traced-via-else-not-traced w ↦
          key_absent _ _ _ _ _ c.requires.good (find-traced c.args.self.now c.args.cells.now c.args.traced c.args.hash c.args.key c.if-self.false w.if-not-traced.false)
    ]
