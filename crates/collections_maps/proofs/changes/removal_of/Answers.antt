use Rattle.std.proofs.Common.{refl}
use Rattle.collections_maps.proofs.GrownLaws.{remove-asked, remove_longer}
use Rattle.collections_maps.proofs.MapLaws.{map-slot, slot-known}
use Rattle.collections_maps.proofs.changes.removal_of.Goals as goal

pub map_in-map-requires : goal.map_in-map-requires
map_in-map-requires c = slot-known c.requires.good c.requires.map c.read_header-h.ensures c.read_part-x.ensures

pub overflow_sub-result : goal.overflow_sub-result
overflow_sub-result c =
    let k = c.map_in-map.ensures in
    remove_longer (map-slot c.requires.good c.requires.map c.read_header-h.ensures c.read_part-x.ensures k.store k.cells) c.cells_after_remove-size.ensures

pub returns : goal.returns
returns c =
    let k = c.map_in-map.ensures in
    remove-asked (map-slot c.requires.good c.requires.map c.read_header-h.ensures c.read_part-x.ensures k.store k.cells) refl c.cells_after_remove-size.ensures refl
