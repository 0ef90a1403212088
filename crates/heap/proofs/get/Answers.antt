use Rattle.heap.proofs.CallLaws.{get_read}
use Rattle.heap.proofs.get.Goals as goal

pub returns : goal.returns
returns c = get_read c.args.view.now.good c.row_at.ensures
