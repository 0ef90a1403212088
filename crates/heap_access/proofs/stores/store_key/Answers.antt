use Rattle.model.specs.Rules.{key}
use Rattle.heap_access.proofs.StoreCalls.{part-store}
use Rattle.heap_access.proofs.stores.store_key.Goals as goal

pub returns : goal.returns
returns c = part-store c.requires key c.store_scalar.ensures
