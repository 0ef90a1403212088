use Rattle.std.proofs.Common.{refl}
use Rattle.collections_growth.proofs.GrowthLaws.{grow_asks}
use Rattle.collections_arrays.proofs.PushLaws.{grown_appends}
use Rattle.collections_arrays.proofs.push_grown.Goals as goal

pub grow-after-requires : goal.grow-after-requires
grow-after-requires c = grow_asks c.requires.good c.requires.room.long

pub append-requires : goal.append-requires
append-requires c = grown_appends c.requires.good c.requires.room c.grow-after.ensures

pub returns : goal.returns
returns c = record { slots = _; cells = _; word = _; longer = record { heap = refl; grown = c.grow-after.ensures }; item = c.item-word.ensures; appended = c.append.ensures }
