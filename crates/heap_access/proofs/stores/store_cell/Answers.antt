use Rattle.heap_access.proofs.StoreCalls.{cell-store}
use Rattle.heap_access.proofs.stores.store_cell.Goals as goal

pub returns : goal.returns
returns c = cell-store c.requires c.store_header_word.ensures
