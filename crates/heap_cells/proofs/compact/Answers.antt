use Rattle.heap_cells.proofs.PackLaws.{packed_begin, pack_end}
use Rattle.heap_cells.proofs.compact.Goals as goal

pub loop-k-init : goal.loop-k-init
loop-k-init c = packed_begin c.requires

pub returns : goal.returns
returns c = pack_end c.loop-k.invariant c.loop-k-test.false
