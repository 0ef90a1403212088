use Rattle.heap.specs.View.{held}
use Rattle.collections_iterators.proofs.VisitLaws.{map-ends, map-inside, map_visits}
use Rattle.collections_iterators.proofs.visit_map.Goals as goal

pub returns-in_default : goal.returns-in_default
returns-in_default c =
    let k = c.map_in-map.ensures in
    map-ends (held c.args.view.now) c.args.h c.args.y c.args.x c.step-s.result k.store k.cells c.cursor_of.ensures c.step-s.ensures c.in_default.is c.requires.epoch c.ended.ensures

pub returns-in_default-entry : goal.returns-in_default-entry
returns-in_default-entry c =
    let k = c.map_in-map.ensures in
    absurd (map-inside (held c.args.view.now) c.args.h c.args.y c.args.x c.step-s.result k.store k.cells c.cursor_of.ensures c.step-s.ensures c.in-Some.is k.cells c.entry.ensures c.in_default-entry.is)

pub returns : goal.returns
returns c =
    let k = c.map_in-map.ensures in
    map_visits (held c.args.view.now) c.args.h c.args.y c.args.x c.step-s.result k.store k.cells c.cursor_of.ensures c.step-s.ensures c.in-Some.is k.cells c.entry.ensures c.in-Some-entry.is c.item.ensures c.moved_to.ensures
