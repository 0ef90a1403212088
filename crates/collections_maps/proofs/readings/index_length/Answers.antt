use mathlib.Core.Path.{refl}
use Rattle.collections_maps.proofs.MapLaws.{index_read, passed-on, shown-ok}
use Rattle.collections_maps.proofs.readings.index_length.Goals as goal

pub returns-in_err-map_parts : goal.returns-in_err-map_parts
returns-in_err-map_parts c = passed-on _ _ (index_read c.args.view.now.good c.map_parts.ensures) _ c.in_err-map_parts.was c.from_residual.ensures.1

pub returns : goal.returns
returns c = shown-ok _ _ (index_read c.args.view.now.good c.map_parts.ensures) c.in_ok-map_parts.was refl
