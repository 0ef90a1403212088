use Rattle.collector_marking.proofs.Adding.{adds-none, adds_as}
use Rattle.collector_marking.proofs.Traced.{items-traced, items_plain}
use Rattle.collector_marking.proofs.Marker.mark_items.Goals as goal

pub returns-then-ty-ge1 : goal.returns-then-ty-ge1
returns-then-ty-ge1 c = adds_as (items-traced _ c.args.items.now c.if-ty-ge1.true) c.mark_words.ensures

pub returns-else-ty-ge1 : goal.returns-else-ty-ge1
returns-else-ty-ge1 c = adds_as (items_plain _ c.args.items.now c.if-ty-ge1.false) adds-none
