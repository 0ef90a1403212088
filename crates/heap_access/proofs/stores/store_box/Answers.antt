use Rattle.heap_access.proofs.StoreCalls.{box-store}
use Rattle.heap_access.proofs.stores.store_box.Goals as goal

pub returns : goal.returns
returns c = box-store c.requires c.store_header_word.ensures
