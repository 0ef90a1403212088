use Rattle.model.specs.Rules.{payload}
use Rattle.heap_access.proofs.ReadCalls.{part_read}
use Rattle.heap_access.proofs.readings.read_payload.Goals as goal

pub returns : goal.returns
returns c = part_read c.args.view.now.good payload c.read_scalar.ensures
