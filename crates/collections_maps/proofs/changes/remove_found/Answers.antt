use Rattle.std.proofs.Common.{refl}
use Rattle.heap.specs.Answers.{seen_by}
use Rattle.heap.proofs.ReachLaws.{scalars_fit, slot-fits}
use Rattle.collections_maps.proofs.MapLaws.{here-at, slot-epoch, slot-known, sought, target-map}
use Rattle.collections_maps.proofs.RemoveLaws.{hashed_asks, hashed_removed, remove_absent, remove-found}
use Rattle.collections_maps.proofs.changes.remove_found.Goals as goal

pub map_of-s-requires : goal.map_of-s-requires
map_of-s-requires c = slot-epoch c.requires.good (target-map c.requires.map) c.read_part-x.ensures

pub map_in-requires : goal.map_in-requires
map_in-requires c = slot-known c.requires.good (target-map c.requires.map) c.read_header-h.ensures c.read_part-x.ensures

pub remove_key_in-n-requires : goal.remove_key_in-n-requires
remove_key_in-n-requires c = hashed_asks (here-at c.requires.good c.requires.map c.read_header-h.ensures c.read_part-x.ensures c.map_of-s.ensures refl) c.traced-t.ensures c.if-s.true

pub write_map-requires : goal.write_map-requires
write_map-requires c = ((slot-fits c.requires.good c.requires.map.reached).0, (slot-fits c.requires.good c.requires.map.reached).1, (scalars_fit c.requires.good c.requires.map.reached).1)

pub returns-then-s : goal.returns-then-s
unfolding seen_by
returns-then-s c = hashed_removed (here-at c.requires.good c.requires.map c.read_header-h.ensures c.read_part-x.ensures c.map_of-s.ensures refl) c.traced-t.ensures c.if-s.true c.remove_key_in-n.ensures c.write_map.ensures

pub remove_place-requires : goal.remove_place-requires
remove_place-requires c = record { good = c.requires.good; map = target-map c.requires.map }

pub returns-in-None : goal.returns-in-None
unfolding seen_by
returns-in-None c =
    let k = c.map_in.ensures in
    remove_absent (here-at c.requires.good c.requires.map c.read_header-h.ensures c.read_part-x.ensures k.store k.cells) (sought c.traced-t.ensures c.find.ensures) c.in-None.is

pub returns-in-Some : goal.returns-in-Some
returns-in-Some c =
    let k = c.map_in.ensures in
    remove-found (here-at c.requires.good c.requires.map c.read_header-h.ensures c.read_part-x.ensures k.store k.cells) (sought c.traced-t.ensures c.find.ensures) c.in-Some.is c.remove_place.ensures
