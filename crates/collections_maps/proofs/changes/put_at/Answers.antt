use mathlib.Core.Path.{sym}
use Rattle.heap.specs.Answers.{seen_by}
use Rattle.collections_maps.proofs.InsertLaws.{put_inserts, put-over, put_overwrites}
use Rattle.collections_maps.proofs.MapLaws.{here-at, here-good, slot-known, slot-region, sought, target-map}
use Rattle.collections_maps.proofs.changes.put_at.Goals as goal

pub map_in-map-requires : goal.map_in-map-requires
map_in-map-requires c = slot-known c.requires.good (target-map c.requires.map) c.read_header-h.ensures c.read_part-x.ensures

pub insert_at-requires : goal.insert_at-requires
insert_at-requires c = record { good = c.requires.good; map = target-map c.requires.map }

pub set_value_in-requires : goal.set_value_in-requires
set_value_in-requires c =
    let k = c.map_in-map.ensures in
    record {
      inside = slot-region c.requires.good (target-map c.requires.map) c.read_header-h.ensures;
      good = rw k.cells at (here-good (here-at c.requires.good c.requires.map c.read_header-h.ensures c.read_part-x.ensures k.store k.cells));
    }

pub returns-then-not-zero_fits : goal.returns-then-not-zero_fits
unfolding seen_by
returns-then-not-zero_fits c =
    let k = c.map_in-map.ensures in
    put-over (here-at c.requires.good c.requires.map c.read_header-h.ensures c.read_part-x.ensures k.store k.cells) (sought c.traced.ensures c.find.ensures) c.in-Some.is (sym c.if-not-zero_fits.ensures.is)

pub returns-in-None : goal.returns-in-None
returns-in-None c =
    let k = c.map_in-map.ensures in
    put_inserts (here-at c.requires.good c.requires.map c.read_header-h.ensures c.read_part-x.ensures k.store k.cells) (sought c.traced.ensures c.find.ensures) c.in-None.is c.insert_at.ensures

pub returns-else-not-zero_fits : goal.returns-else-not-zero_fits
unfolding seen_by
returns-else-not-zero_fits c =
    let k = c.map_in-map.ensures in
    put_overwrites (here-at c.requires.good c.requires.map c.read_header-h.ensures c.read_part-x.ensures k.store k.cells) (sought c.traced.ensures c.find.ensures) c.in-Some.is (sym c.if-not-zero_fits.ensures.is) c.if-not-zero_fits.ensures.same
    c.set_value_in.ensures.own c.set_value_in.ensures.value
