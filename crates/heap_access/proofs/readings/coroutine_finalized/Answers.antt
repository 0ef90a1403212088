use mathlib.Core.Path.{ap}
use Rattle.model.specs.Replies.{reply, truth}
use Rattle.heap_slots.specs.declared.CoroutineScalars.{CoroutineScalars}
use Rattle.heap.specs.Kinds.{yes}
use Rattle.heap.proofs.ReachLaws.{located_at, scalars_fit}
use Rattle.heap_access.proofs.ReadingLaws.{passed_on, shown_ok}
use Rattle.heap_access.proofs.ReadCalls.{finalized_read}
use Rattle.heap_access.proofs.readings.coroutine_finalized.Goals as goal

pub returns-in_err-i : goal.returns-in_err-i
returns-in_err-i c = passed_on _ _ (finalized_read c.args.view.now.good c.locate.ensures) _ c.in_err-i.was c.from_residual.ensures.1

pub read_part-x-requires : goal.read_part-x-requires
read_part-x-requires c = scalars_fit c.args.view.now.good (located_at c.args.view.now.good c.locate.ensures c.in_ok-i.was).reached

pub returns : goal.returns
returns c = shown_ok _ _ (finalized_read c.args.view.now.good c.locate.ensures) c.in_ok-i.was (ap (λ (x : CoroutineScalars). reply (truth (yes x.finalized))) c.read_part-x.ensures)
