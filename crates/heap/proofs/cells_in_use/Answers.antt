use Rattle.heap.proofs.CallLaws.{cells_read}
use Rattle.heap.proofs.cells_in_use.Goals as goal

pub returns : goal.returns
returns c = cells_read c.args.view.now.good
