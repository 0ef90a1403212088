use native.Mathlib.Omega.{arith}
use Rattle.heap.proofs.ReachLaws.{found-reached, scalars_fit, slot-fits}
use Rattle.collections_iterators.proofs.BeginLaws.{iterates_array, iterates_else, iterates_map, iterates_missed}
use Rattle.collections_iterators.proofs.new_iter.Goals as goal

pub returns-in-Err : goal.returns-in-Err
returns-in-Err c = rw c.source_missed.ensures (iterates_missed c.requires c.find.ensures c.in-Err.is)

pub read_header-requires : goal.read_header-requires
read_header-requires c = slot-fits c.requires (found-reached c.requires c.find.ensures c.in-Ok.is)

pub read_part-x-requires : goal.read_part-x-requires
read_part-x-requires c = scalars_fit c.requires (found-reached c.requires c.find.ensures c.in-Ok.is)

pub returns-in-6 : goal.returns-in-6
returns-in-6 c = iterates_array c.requires c.find.ensures c.in-Ok.is c.read_header.ensures c.in-6.is c.begin_iter.ensures

pub returns-in-7 : goal.returns-in-7
returns-in-7 c = iterates_map c.requires c.find.ensures c.in-Ok.is c.read_header.ensures c.in-7.is c.read_part-x.ensures c.begin_iter-in-7.ensures

pub returns-in_default : goal.returns-in_default
returns-in_default c = iterates_else c.requires c.find.ensures c.in-Ok.is c.read_header.ensures (λ z. absurd (omega (arith, z))) (λ z. absurd (omega (arith, z)))
