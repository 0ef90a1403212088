use Rattle.std.proofs.Common.{rules, sym, ap, ◌∙◌}
use Rattle.map_store.specs.View.{seek_is}
use Rattle.map_store.proofs.Rooms.{len-small}
use Rattle.map_store.proofs.Calls.{seat_position, find-by-hash, find-traced, find-place, find-no-place}
use Rattle.map_store.proofs.reading.Map.find.Goals.{else-not-traced-via-then-not-traced+else-key-store, else-not-traced-via-else-not-traced}
use Rattle.map_store.proofs.reading.Map.find.Goals as goal

pub seek-requires : goal.seek-requires
seek-requires c = rw c.places-index.ensures ((c.args.self.now.good.indexed c.if-store.true).mapped)

pub returns-then-store : goal.returns-then-store
returns-then-store c = seat_position _ _ _ c.map.ensures.cases (λ t p h. search rules) ∙ c.seek.ensures.answer ∙ find-by-hash c.args.self.now.store _ _ _ _ c.if-store.true

pub returns-then-key-store : goal.returns-then-key-store
returns-then-key-store c =
    find-place c.args.self.now.store _ _ _ _ c.if-store.false c.if-not-traced.true (len-small _ _ c.args.self.now.good) c.if-key-store.true

pub returns-else-not-traced : goal.returns-else-not-traced
returns-else-not-traced c =
    elim c.else-not-traced.branch [
      | else-not-traced-via-then-not-traced+else-key-store w ↦ find-no-place c.args.self.now.store _ _ _ _ c.if-store.false w.if-not-traced.true w.if-key-store.false
      | else-not-traced-via-else-not-traced w ↦ find-traced c.args.self.now.store _ _ _ _ c.if-store.false w.if-not-traced.false
    ]
