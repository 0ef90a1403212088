use Rattle.collections_growth.proofs.RegionLaws.{region-part}
use Rattle.collections_maps.proofs.WriteLaws.{valued_in}
use Rattle.collections_maps.proofs.changes.set_value_in.Goals as goal

pub set_value-requires : goal.set_value-requires
set_value-requires c = rw (region-part c.args.h c.args.cells.now) c.requires.good

pub returns : goal.returns
returns c = let z = valued_in c.args.h c.args.cells.now c.set_value.new.cells c.requires.inside c.set_value.auto.cells c.set_value.ensures in record { own = z.0; value = z.1 }
