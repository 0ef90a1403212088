use Rattle.heap_access.proofs.ReadCalls.{frame-count_read}
use Rattle.heap_access.proofs.readings.frame_count.Goals as goal

pub returns : goal.returns
returns c = frame-count_read c.args.view.now.good c.read_scalar.ensures
