use Rattle.heap.proofs.CallLaws.{collections_read}
use Rattle.heap.proofs.collection_count.Goals as goal

pub returns : goal.returns
returns c = collections_read c.args.view.now.good
