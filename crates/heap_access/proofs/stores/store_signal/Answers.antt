use Rattle.model.specs.Rules.{signal}
use Rattle.heap_access.proofs.StoreCalls.{part-store}
use Rattle.heap_access.proofs.stores.store_signal.Goals as goal

pub returns : goal.returns
returns c = part-store c.requires signal c.store_scalar.ensures
