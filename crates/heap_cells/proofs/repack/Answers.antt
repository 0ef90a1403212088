use Rattle.heap_cells.proofs.GrowLaws.{relocate_asks, widen_asks, grown-after}
use Rattle.heap_cells.proofs.repack.Goals as goal

pub relocate-requires : goal.relocate-requires
relocate-requires c = relocate_asks c.requires.0 c.compact-p.ensures c.requires.2 c.if-p-size.true

pub returns-then-p-size : goal.returns-then-p-size
returns-then-p-size c = grown-after c.requires.0 c.compact-p.ensures c.relocate.ensures

pub widen-requires : goal.widen-requires
widen-requires c = widen_asks c.requires.0 c.compact-p.ensures c.requires.1 c.if-p-size.false

pub returns-else-p-size : goal.returns-else-p-size
returns-else-p-size c = grown-after c.requires.0 c.compact-p.ensures c.widen.ensures
