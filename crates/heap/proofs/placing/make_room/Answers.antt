use Rattle.heap.proofs.IdleLaws.{roomy}
use Rattle.heap.proofs.placing.make_room.Goals as goal

pub returns : goal.returns
returns c = roomy c.requires.0 c.reserve-after.ensures
