use Rattle.model.specs.Rules.{payload}
use Rattle.heap_access.proofs.StoreCalls.{part-store}
use Rattle.heap_access.proofs.stores.store_payload.Goals as goal

pub returns : goal.returns
returns c = part-store c.requires payload c.store_scalar.ensures
