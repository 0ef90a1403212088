use Rattle.std.proofs.Common.{le-ltb, lt-ltb}
use Rattle.map_store.specs.Store as S
use Rattle.map_store.proofs.doubled_index.Goals as goal

pub returns-then-n-live : goal.returns-then-n-live
unfolding S.doubled_index
returns-then-n-live c = rw (lt-ltb _ _ c.if-n-live.true)

pub returns-else-n-live : goal.returns-else-n-live
unfolding S.doubled_index
returns-else-n-live c = rw (le-ltb _ _ c.if-n-live.false)
