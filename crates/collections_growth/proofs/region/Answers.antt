use Rattle.collections_growth.proofs.RegionLaws.{region-part}
use Rattle.collections_growth.proofs.region.Goals as goal

pub returns : goal.returns
returns c = region-part c.args.h c.args.cells.now
