use Rattle.heap.proofs.SeatLaws.{next-fresh, next-listed}
use Rattle.heap.proofs.placing.next_slot.Goals as goal

pub returns-then-free-eq0 : goal.returns-then-free-eq0
returns-then-free-eq0 c = next-fresh _ _ _ c.if-free-eq0.true

pub returns-else-free-eq0 : goal.returns-else-free-eq0
returns-else-free-eq0 c = next-listed _ _ _ c.if-free-eq0.false
