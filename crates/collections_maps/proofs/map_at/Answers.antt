use Rattle.std.proofs.lemmas.Result.{err_from_is_err_and}
use Rattle.heap.proofs.ReachLaws.{located_fits}
use Rattle.collections_maps.proofs.InsertLaws.{located_map}
use Rattle.collections_maps.proofs.MapLaws.{map-found, map-missed, map-scalars-fit, slot-known}
use Rattle.collections_maps.proofs.map_at.Goals as goal

pub read_header-h-requires : goal.read_header-h-requires
read_header-h-requires c = located_fits c.args.view.now.good c.locate.ensures c.in_ok-i.was

pub read_part-x-requires : goal.read_part-x-requires
read_part-x-requires c = map-scalars-fit c.args.view.now.good c.locate.ensures c.in_ok-i.was

pub map_in-requires : goal.map_in-requires
map_in-requires c = slot-known c.args.view.now.good (located_map c.args.view.now.good c.locate.ensures c.in_ok-i.was) c.read_header-h.ensures c.read_part-x.ensures

pub returns-in_err-i : goal.returns-in_err-i
returns-in_err-i c =
    let p = err_from_is_err_and c.from_residual.result c.from_residual.ensures.1 in
    rw (p.1, p.2) (map-missed c.args.view.now.good c.locate.ensures c.in_err-i.was)

pub returns : goal.returns
returns c = map-found c.args.view.now.good c.locate.ensures c.in_ok-i.was c.read_header-h.ensures c.read_part-x.ensures c.map_in.ensures c.traced.ensures
