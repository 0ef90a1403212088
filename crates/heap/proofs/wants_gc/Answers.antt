use Rattle.heap.proofs.CallLaws.{wants_read}
use Rattle.heap.proofs.wants_gc.Goals as goal

pub returns : goal.returns
returns c = wants_read c.args.view.now.good c.wants_gc.ensures
