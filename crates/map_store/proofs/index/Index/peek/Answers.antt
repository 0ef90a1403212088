use Rattle.map_store.proofs.Words.{peek_is}
use Rattle.map_store.proofs.index.Index.peek.Goals as goal

pub returns : goal.returns
returns c = peek_is _ _ _ c.requires c.type_inv.cells
