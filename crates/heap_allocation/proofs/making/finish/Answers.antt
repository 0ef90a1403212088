use Rattle.heap_allocation.proofs.MakeLaws.{finished_plain, finished_region, object-empty}
use Rattle.heap_allocation.proofs.making.finish.Goals as goal

pub place_plain-requires : goal.place_plain-requires
place_plain-requires c =
    let y = c.requires.0 in
    (y.good, rw c.if-header-eq0.true at y.judged, object-empty _ c.if-header-eq0.true c.requires.1)

pub returns-then-header-eq0 : goal.returns-then-header-eq0
returns-then-header-eq0 c = finished_plain c.args.header c.requires.0 c.if-header-eq0.true c.place_plain.ensures

pub place_region-requires : goal.place_region-requires
place_region-requires c =
    let y = c.requires.0 in
    (y.good, y.judged, y.region, y.entry c.if-header-eq0.false, c.requires.1)

pub returns-else-header-eq0 : goal.returns-else-header-eq0
returns-else-header-eq0 c = finished_region c.args.header c.requires.0 c.if-header-eq0.false c.place_region.ensures
