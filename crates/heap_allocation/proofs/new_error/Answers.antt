use Rattle.heap_allocation.proofs.PlainLaws.{error-made}
use Rattle.heap_allocation.proofs.new_error.Goals as goal

pub returns : goal.returns
returns c = error-made c.requires (rw c.from.ensures) c.new_plain.ensures
