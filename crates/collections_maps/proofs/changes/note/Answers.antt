use Rattle.std.proofs.Common.{refl, to_z-of_z}
use Rattle.std.proofs.lemmas.Result.{err_from_is_err_and}
use Rattle.heap.specs.Answers.{seen_by}
use Rattle.heap.proofs.ReachLaws.{located_fits}
use Rattle.collections_maps.proofs.MapLaws.{map-epoch-fits, map-here, map-scalars-fit}
use Rattle.collections_maps.proofs.MapStoreLaws.{key-noted, note-refused}
use Rattle.collections_maps.proofs.changes.note.Goals as goal

pub read_header-h-requires : goal.read_header-h-requires
read_header-h-requires c = located_fits c.requires c.locate.ensures c.in_ok-i.was

pub read_part-x-requires : goal.read_part-x-requires
read_part-x-requires c = map-scalars-fit c.requires c.locate.ensures c.in_ok-i.was

pub map_of-s-requires : goal.map_of-s-requires
map_of-s-requires c = map-epoch-fits c.requires c.locate.ensures c.in_ok-i.was c.read_part-x.ensures

pub write_map-requires : goal.write_map-requires
write_map-requires c =
    let f = located_fits c.requires c.locate.ensures c.in_ok-i.was in
    (f.0, f.1, (map-scalars-fit c.requires c.locate.ensures c.in_ok-i.was).1)

pub returns-in_err-i : goal.returns-in_err-i
unfolding seen_by
returns-in_err-i c =
    let p = err_from_is_err_and c.from_residual.result c.from_residual.ensures.1 in
    rw (p.1, p.2) (note-refused c.requires c.locate.ensures c.in_err-i.was)

pub returns : goal.returns
unfolding seen_by
returns c = key-noted (map-here c.requires c.locate.ensures c.in_ok-i.was c.read_header-h.ensures c.read_part-x.ensures c.map_of-s.ensures refl) (rw (to_z-of_z c.ranges.k) at c.note_int_key.ensures) c.write_map.ensures
