use Rattle.heap_cells.proofs.ShiftLaws.{shift_one}
use Rattle.heap_cells.proofs.shift_entry.Goals as goal

pub returns-in-Some : goal.returns-in-Some
returns-in-Some c = shift_one c.requires.0 c.requires.1 c.in-Some.ensures c.write_header.ensures
