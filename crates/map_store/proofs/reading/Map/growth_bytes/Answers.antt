use Rattle.std.proofs.Common.{eqb, ltb, ◌+◌, ◌∙◌, refl, arith}
use Rattle.map_store.specs.Store as S
use Rattle.map_store.specs.RoomLaws.{index_for_small}
use Rattle.map_store.proofs.Rooms.{live_small, capacity-small, growth-packed, growth-hashed, grow_small, index-grows, index-stays}
use Rattle.map_store.proofs.reading.Map.growth_bytes.Goals as goal

pub returns-then-stays_packed : goal.returns-then-stays_packed
returns-then-stays_packed c = growth-packed _ _ c.args.self.now.good _ _ _ _ _ c.entries_growth-entries.ensures c.stays_packed.ensures c.if-stays_packed.true

pub overflow_add-store : goal.overflow_add-store
overflow_add-store c = record { fits = omega (arith, live_small _ _ c.args.self.now.good) }

pub index_for-need-requires : goal.index_for-need-requires
index_for-need-requires c = omega (arith, live_small _ _ c.args.self.now.good)

pub overflow_mul-result : goal.overflow_mul-result
overflow_mul-result c = record { fits = omega (arith, c.index_for-need.ensures, index_for_small (c.args.self.now.store.live + 1), live_small _ _ c.args.self.now.good) }

pub overflow_add-result : goal.overflow_add-result
overflow_add-result c =
    let s = c.args.self.now.store in
    let G = c.args.self.now.good in
    let entries = grow_small (eqb s.len s.capacity) s.capacity c.args.weight _ (capacity-small _ _ G) c.requires c.entries_growth-entries.ensures in
    record { fits = omega (arith, entries, c.index_for-need.ensures, index_for_small (s.live + 1), live_small _ _ G) }

pub returns-then-store-need : goal.returns-then-store-need
returns-then-store-need c =
    growth-hashed _ _ c.args.self.now.good _ _ _ _ _ _ c.entries_growth-entries.ensures c.stays_packed.ensures c.if-stays_packed.false
    (index-grows _ _ _ c.index_for-need.ensures c.if-store-need.true)

pub returns-else-store-need : goal.returns-else-store-need
returns-else-store-need c =
    index-stays _ _ _ _ c.index_for-need.ensures c.if-store-need.false
    ∙ growth-hashed _ _ c.args.self.now.good _ _ _ _ _ _ c.entries_growth-entries.ensures c.stays_packed.ensures c.if-stays_packed.false refl
