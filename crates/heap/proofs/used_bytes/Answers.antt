use Rattle.heap.proofs.CallLaws.{used_read}
use Rattle.heap.proofs.used_bytes.Goals as goal

pub returns : goal.returns
returns c = used_read c.args.view.now.good
