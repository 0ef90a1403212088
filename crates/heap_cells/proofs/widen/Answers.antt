use Rattle.heap_cells.proofs.GrowLaws.{grown_widened}
use Rattle.heap_cells.proofs.widen.Goals as goal

pub returns : goal.returns
returns c = grown_widened c.requires.0 c.requires.1 c.requires.2 c.read_header-h.ensures c.move_cells.ensures c.shift.ensures c.write_header.ensures
