use mathlib.Core.Path.{refl}
use Rattle.std.proofs.lemmas.Result.{err_from_is_err_and}
use Rattle.heap.specs.Answers.{seen_by}
use Rattle.heap.proofs.ReachLaws.{located_fits}
use Rattle.collections_maps.proofs.MapLaws.{here-good, map-epoch-fits, map-here, map-region-fits, map-scalars-fit}
use Rattle.collections_maps.proofs.MapStoreLaws.{value-refused, value_set}
use Rattle.collections_maps.proofs.changes.set_value.Goals as goal

pub read_header-h-requires : goal.read_header-h-requires
read_header-h-requires c = located_fits c.requires c.locate.ensures c.in_ok-i.was

pub read_part-x-requires : goal.read_part-x-requires
read_part-x-requires c = map-scalars-fit c.requires c.locate.ensures c.in_ok-i.was

pub map_of-requires : goal.map_of-requires
map_of-requires c = map-epoch-fits c.requires c.locate.ensures c.in_ok-i.was c.read_part-x.ensures

pub set_value_in-requires : goal.set_value_in-requires
set_value_in-requires c = record {
  inside = map-region-fits c.requires c.locate.ensures c.in_ok-i.was c.read_header-h.ensures;
  good = here-good (map-here c.requires c.locate.ensures c.in_ok-i.was c.read_header-h.ensures c.read_part-x.ensures c.map_of.ensures refl);
}

pub returns-in_err-i : goal.returns-in_err-i
unfolding seen_by
returns-in_err-i c =
    let p = err_from_is_err_and c.from_residual.result c.from_residual.ensures.1 in
    rw (p.1, p.2) (value-refused c.requires c.locate.ensures c.in_err-i.was)

pub returns : goal.returns
unfolding seen_by
returns c =
    value_set (map-here c.requires c.locate.ensures c.in_ok-i.was c.read_header-h.ensures c.read_part-x.ensures c.map_of.ensures refl) c.set_value_in.ensures.own c.set_value_in.ensures.value
