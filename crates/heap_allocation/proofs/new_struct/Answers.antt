use Rattle.heap_allocation.proofs.RegionLaws.{struct_made, words-object}
use native.Mathlib.Omega.{arith}
use Rattle.heap_allocation.proofs.new_struct.Goals as goal

pub new_words-requires : goal.new_words-requires
new_words-requires c = (c.requires, words-object 8 _ _ _ _ (omega arith) (omega arith) (λ z. absurd (omega (arith, z))))

pub returns : goal.returns
returns c = struct_made c.requires c.new_words.ensures.0
