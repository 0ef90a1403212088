use mathlib.Core.Path.{refl}
use Rattle.heap_cells.proofs.GrowLaws.{grown-moved}
use Rattle.heap_cells.proofs.relocate.Goals as goal

pub returns : goal.returns
returns c = grown-moved c.requires.0 c.requires.1 c.requires.2 c.requires.3 c.read_header-h.ensures c.move_cells.ensures c.write_header.ensures refl
