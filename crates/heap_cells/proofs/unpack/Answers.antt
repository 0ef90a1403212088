use Rattle.heap_cells.proofs.StringLaws.{unpacked}
use Rattle.heap_cells.proofs.unpack.Goals as goal

pub returns : goal.returns
returns c = unpacked (rw c.to_le_bytes-eight.ensures at c.copy_from_slice.ensures.after) c.requires.0 c.requires.1
