use Rattle.std.proofs.Common.{ℕ, List}
use Rattle.collections_maps.specs.Changes.{room_without}
use Rattle.collections_maps.proofs.ChangeLaws.{in_region}
use Rattle.collections_growth.proofs.RegionLaws.{region-length-fits, region-part}
use Rattle.collections_maps.proofs.changes.remove_in.Goals as goal

pub remove-requires : goal.remove-requires
remove-requires c = rw (region-part c.args.h c.args.cells.now) (record { good = c.requires.good; room = region-length-fits c.args.h c.args.cells.now c.requires.inside c.requires.room })

pub returns : goal.returns
returns c = in_region c.args.h c.args.cells.now (λ (z : List ℕ). room_without c.args.s z) c.remove.new.cells c.requires.inside c.remove.auto.cells c.remove.ensures
