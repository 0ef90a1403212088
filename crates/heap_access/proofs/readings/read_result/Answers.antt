use Rattle.model.specs.Rules.{result}
use Rattle.heap_access.proofs.ReadCalls.{part_read}
use Rattle.heap_access.proofs.readings.read_result.Goals as goal

pub returns : goal.returns
returns c = part_read c.args.view.now.good result c.read_scalar.ensures
