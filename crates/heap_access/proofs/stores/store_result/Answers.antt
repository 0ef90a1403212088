use Rattle.model.specs.Rules.{result}
use Rattle.heap_access.proofs.StoreCalls.{part-store}
use Rattle.heap_access.proofs.stores.store_result.Goals as goal

pub returns : goal.returns
returns c = part-store c.requires result c.store_scalar.ensures
