use Rattle.heap_cells.proofs.GrowLaws.{grown_top}
use Rattle.heap_cells.proofs.extend.Goals as goal

pub returns : goal.returns
returns c = grown_top c.requires.0 c.requires.1 c.requires.2 c.requires.3 c.read_header-h.ensures c.write_header.ensures
