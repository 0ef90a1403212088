use Rattle.model.specs.Rules.{signal}
use Rattle.heap_access.proofs.ReadCalls.{part_read}
use Rattle.heap_access.proofs.readings.read_signal.Goals as goal

pub returns : goal.returns
returns c = part_read c.args.view.now.good signal c.read_scalar.ensures
