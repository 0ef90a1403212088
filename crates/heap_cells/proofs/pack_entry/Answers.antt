use mathlib.Core.Path.{refl}
use Rattle.heap_cells.proofs.PackLaws.{pack_step}
use Rattle.heap_cells.proofs.pack_entry.Goals as goal

pub returns : goal.returns
returns c = pack_step c.requires.0 c.requires.1 c.in-Some.ensures c.move_cells.ensures c.write_header.ensures refl
