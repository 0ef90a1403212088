use Rattle.heap_access.proofs.StoreCalls.{state_bad, state_store}
use Rattle.heap_access.proofs.stores.set_state.Goals as goal

pub returns-then-s-gt4 : goal.returns-then-s-gt4
returns-then-s-gt4 c = state_bad _ c.requires c.if-s-gt4.true

pub returns : goal.returns
returns c = state_store _ c.requires c.if-s-gt4.false c.store_header_word.ensures
