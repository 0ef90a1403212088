use native.Mathlib.Omega.{arith}
use Rattle.heap_cells.proofs.StringLaws.{packs_padded}
use Rattle.heap_cells.proofs.pack.Goals as goal

pub returns : goal.returns
returns c = packs_padded c.args.bytes.now _ c.requires (λ i. omega (arith, c.type_inv.bytes i)) (rw c.copy_from_slice.ensures.after at c.from_le_bytes-2.ensures)
