use mathlib.Core.Path.{refl}
use mir.Facts.{to_z-of_z}
use Rattle.heap_allocation.proofs.PlainLaws.{integer-made}
use Rattle.heap_allocation.proofs.new_integer.Goals as goal

pub returns : goal.returns
returns c = integer-made c.requires c.ranges.z (rw (to_z-of_z c.ranges.z) at c.bits_of.ensures) refl c.new_plain.ensures
