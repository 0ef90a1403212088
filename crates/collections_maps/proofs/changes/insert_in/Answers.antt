use Rattle.std.proofs.Common.{ℕ, List}
use Rattle.collections_maps.specs.Changes.{room_after}
use Rattle.collections_maps.proofs.ChangeLaws.{in_region}
use Rattle.collections_growth.proofs.RegionLaws.{region-length-fits, region-part}
use Rattle.collections_maps.proofs.changes.insert_in.Goals as goal

pub insert-requires : goal.insert-requires
insert-requires c = rw (region-part c.args.h c.args.cells.now) (record { good = c.requires.good; room = region-length-fits c.args.h c.args.cells.now c.requires.inside c.requires.room; number = c.requires.number })

pub returns : goal.returns
returns c = in_region c.args.h c.args.cells.now (λ (z : List ℕ). room_after c.args.traced c.args.key c.args.s z) c.insert.new.cells c.requires.inside c.insert.auto.cells c.insert.ensures
