use mathlib.Core.Path.{refl}
use Rattle.heap_allocation.proofs.PlainLaws.{box-made}
use Rattle.heap_allocation.proofs.new_box.Goals as goal

pub returns : goal.returns
returns c = box-made c.requires refl c.new_plain.ensures
