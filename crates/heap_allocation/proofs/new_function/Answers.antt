use Rattle.heap_allocation.proofs.RegionLaws.{flag_read, function-made, words-object}
use native.Mathlib.Omega.{arith}
use Rattle.heap_allocation.proofs.new_function.Goals as goal

pub new_words-requires : goal.new_words-requires
new_words-requires c = (c.requires, words-object 9 _ _ _ _ (omega arith) (omega arith) (λ z. absurd (omega (arith, z))))

pub returns : goal.returns
returns c = function-made c.requires (rw c.from.ensures (flag_read c.args.import)) c.new_words.ensures.0
