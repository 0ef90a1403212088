use mir.Facts.{to_z-of_z}
use Rattle.heap_allocation.proofs.RegionLaws.{array-length-refused, array_made, array-type-refused, length-fits}
use Rattle.heap_allocation.proofs.new_array.Goals as goal

pub returns-then-t-gt2 : goal.returns-then-t-gt2
returns-then-t-gt2 c = array-type-refused c.requires _ c.args.length c.if-t-gt2.true

pub returns-then-length-lt0 : goal.returns-then-length-lt0
returns-then-length-lt0 c = array-length-refused c.requires _ c.args.length c.if-t-gt2.false (rw (to_z-of_z c.ranges.length) at c.if-length-lt0.true)

pub overflow_cast-length : goal.overflow_cast-length
overflow_cast-length c = rw (to_z-of_z c.ranges.length) (length-fits c.args.length c.ranges.length (rw (to_z-of_z c.ranges.length) at c.if-length-lt0.false))

pub returns : goal.returns
returns c = array_made c.requires c.args.length c.if-t-gt2.false (rw (to_z-of_z c.ranges.length) at c.if-length-lt0.false) (rw (to_z-of_z c.ranges.length) at c.new_items.ensures.0)
