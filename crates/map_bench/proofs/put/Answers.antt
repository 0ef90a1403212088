use Rattle.std.proofs.Common.{sym, ap, ◌∙◌}
use Rattle.map_store.specs.View.{position}
use Rattle.map_bench.proofs.Laws.{put-found, put_full, put-new, put-spent}
use Rattle.map_bench.proofs.put.Goals as goal

pub returns-in-Some : goal.returns-in-Some
returns-in-Some c = put-found _ _ _ _ _ _ _ (ap position (sym c.in-Some.is) ∙ c.find.ensures) c.set_value.ensures

pub returns-then-store-ge4294967296 : goal.returns-then-store-ge4294967296
returns-then-store-ge4294967296 c = put-spent _ _ _ _ _ (ap position (sym c.in_default.is) ∙ c.find.ensures) c.if-store-ge4294967296.true

pub returns-then-map-cells_after_insert : goal.returns-then-map-cells_after_insert
returns-then-map-cells_after_insert c =
    put_full _ _ _ _ _ (ap position (sym c.in_default.is) ∙ c.find.ensures) c.if-store-ge4294967296.false c.cells_after_insert.ensures c.if-map-cells_after_insert.true

pub returns : goal.returns
returns c =
    put-new _ _ _ _ _ (ap position (sym c.in_default.is) ∙ c.find.ensures) c.if-store-ge4294967296.false c.cells_after_insert.ensures c.if-map-cells_after_insert.false _ _ _ c.insert.ensures
