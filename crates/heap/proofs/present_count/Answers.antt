use Rattle.heap.proofs.CallLaws.{present_read}
use Rattle.heap.proofs.present_count.Goals as goal

pub returns : goal.returns
returns c = present_read c.args.view.now.good
