use Rattle.heap.proofs.ReachLaws.{located_fits}
use Rattle.collections_maps.proofs.MapLaws.{map-scalars-fit, parts-found, parts-missed}
use Rattle.collections_maps.proofs.readings.map_parts.Goals as goal

pub returns-in_err-i : goal.returns-in_err-i
returns-in_err-i c = parts-missed c.locate.ensures c.in_err-i.was c.from_residual.ensures.1

pub read_header-requires : goal.read_header-requires
read_header-requires c = located_fits c.args.view.now.good c.locate.ensures c.in_ok-i.was

pub read_part-requires : goal.read_part-requires
read_part-requires c = map-scalars-fit c.args.view.now.good c.locate.ensures c.in_ok-i.was

pub returns : goal.returns
returns c = parts-found c.locate.ensures c.in_ok-i.was c.read_header.ensures c.read_part.ensures
