use mathlib.Core.Path.{refl}
use Rattle.collections_growth.proofs.GrowthLaws.{grow_asks, slot-header-fits, stays-longer}
use Rattle.collections_growth.proofs.longer.Goals as goal

pub read_header-requires : goal.read_header-requires
read_header-requires c = slot-header-fits c.requires.good c.requires.room

pub returns-then-size-read_header : goal.returns-then-size-read_header
returns-then-size-read_header c = stays-longer c.requires.good c.requires.room c.read_header.ensures c.if-size-read_header.true

pub grow-after-requires : goal.grow-after-requires
grow-after-requires c = grow_asks c.requires.good c.requires.room

pub returns : goal.returns
returns c = record { heap = refl; grown = c.grow-after.ensures }
