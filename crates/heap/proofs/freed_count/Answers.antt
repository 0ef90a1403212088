use Rattle.heap.proofs.CallLaws.{freed_read}
use Rattle.heap.proofs.freed_count.Goals as goal

pub returns : goal.returns
returns c = freed_read c.args.view.now.good
