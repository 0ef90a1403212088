use Rattle.std.proofs.Common.{arith}
use Rattle.map_store.proofs.Steps.{wiped}
use Rattle.map_store.proofs.index.Index.clear.Goals as goal

pub returns : goal.returns
returns c = wiped _ _ _ _ _ (omega arith) c.requires (c.fill.ensures.after (λ y e. e))
