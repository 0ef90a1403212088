use mathlib.Core.Path.{refl}
use Rattle.heap_allocation.proofs.PlainLaws.{cell-made, cell-refused}
use Rattle.heap_allocation.proofs.new_cell.Goals as goal

pub returns-then-t-gt2 : goal.returns-then-t-gt2
returns-then-t-gt2 c = cell-refused c.requires _ _ c.if-t-gt2.true

pub returns : goal.returns
returns c = cell-made c.requires c.if-t-gt2.false refl c.new_plain.ensures
