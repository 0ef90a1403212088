use Rattle.std.proofs.Common.{refl}
use Rattle.collections_maps.proofs.GrownLaws.{insert-asked, insert_longer}
use Rattle.collections_maps.proofs.MapLaws.{map-slot, slot-known}
use Rattle.collections_maps.proofs.changes.insertion_of.Goals as goal

pub map_in-map-requires : goal.map_in-map-requires
map_in-map-requires c = slot-known c.requires.good c.requires.map c.read_header-h.ensures c.read_part-x.ensures

pub growth_bytes-requires : goal.growth_bytes-requires
growth_bytes-requires c = c.requires.good.weights.entry.1

pub overflow_sub-result : goal.overflow_sub-result
overflow_sub-result c =
    let k = c.map_in-map.ensures in
    insert_longer (map-slot c.requires.good c.requires.map c.read_header-h.ensures c.read_part-x.ensures k.store k.cells) c.traced-t.result c.args.key c.cells_after_insert-size.ensures

pub returns : goal.returns
returns c =
    let k = c.map_in-map.ensures in
    insert-asked (map-slot c.requires.good c.requires.map c.read_header-h.ensures c.read_part-x.ensures k.store k.cells) refl c.traced-t.ensures c.growth_bytes.ensures c.cells_after_insert-size.ensures refl
