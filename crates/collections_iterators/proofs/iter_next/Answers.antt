use Rattle.std.proofs.lemmas.Result.{err_from_is_err_and}
use Rattle.heap.proofs.ReachLaws.{located_fits}
use Rattle.collections_iterators.proofs.IteratorLaws.{cursor-fits, iterator-scalars-fit}
use Rattle.collections_iterators.proofs.VisitLaws.{next-does, next-refused}
use Rattle.collections_iterators.proofs.iter_next.Goals as goal

pub read_header-requires : goal.read_header-requires
read_header-requires c = located_fits c.requires c.locate.ensures c.in_ok-i.was

pub read_part-x-requires : goal.read_part-x-requires
read_part-x-requires c = iterator-scalars-fit c.requires c.locate.ensures c.in_ok-i.was

pub write_scalars-requires : goal.write_scalars-requires
write_scalars-requires c = iterator-scalars-fit c.requires c.locate.ensures c.in_ok-i.was

pub returns-in_err-i : goal.returns-in_err-i
returns-in_err-i c =
    let p = err_from_is_err_and c.from_residual.result c.from_residual.ensures.1 in
    rw (p.1, p.2) (next-refused c.requires c.locate.ensures c.in_err-i.was)

pub returns : goal.returns
returns c = next-does c.requires c.locate.ensures c.in_ok-i.was c.read_header.ensures c.read_part-x.ensures c.advance-v.ensures c.from.ensures c.write_scalars.ensures

pub advance-v-requires : goal.advance-v-requires
advance-v-requires c = record { epoch = cursor-fits c.requires c.locate.ensures c.in_ok-i.was c.read_part-x.ensures }
