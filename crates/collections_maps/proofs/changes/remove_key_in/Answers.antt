use Rattle.std.proofs.Common.{ℕ, List}
use Rattle.collections_maps.specs.Changes.{room_without_key}
use Rattle.collections_maps.proofs.ChangeLaws.{in_region}
use Rattle.collections_growth.proofs.RegionLaws.{region-length-fits, region-part}
use Rattle.collections_maps.proofs.changes.remove_key_in.Goals as goal

pub remove_key-requires : goal.remove_key-requires
remove_key-requires c = rw (region-part c.args.h c.args.cells.now) (record { good = c.requires.good; room = region-length-fits c.args.h c.args.cells.now c.requires.inside c.requires.room })

pub returns : goal.returns
returns c = in_region c.args.h c.args.cells.now (λ (z : List ℕ). room_without_key c.args.traced c.args.hash c.args.key c.args.s z) c.remove_key.new.cells c.requires.inside c.remove_key.auto.cells c.remove_key.ensures
