use Rattle.heap_record.proofs.OpenLaws.{opens-words}
use Rattle.heap_record.proofs.open.Goals as goal

pub returns : goal.returns
returns c = opens-words _ (rw c.load_weights.ensures at c.open-opened.ensures) c.settle.ensures
