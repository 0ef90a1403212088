use Rattle.model.specs.Rules.{key}
use Rattle.heap_access.proofs.ReadCalls.{part_read}
use Rattle.heap_access.proofs.readings.read_key.Goals as goal

pub returns : goal.returns
returns c = part_read c.args.view.now.good key c.read_scalar.ensures
