use Rattle.std.proofs.Common.{arith}
use Rattle.collections_iterators.proofs.VisitLaws.{moves_to}
use Rattle.collections_iterators.proofs.moved_to.Goals as goal

pub returns : goal.returns
returns c = rw (c.from.ensures, c.is_some.ensures, c.unwrap_or.ensures, c.from-2.ensures) (moves_to c.args.c.last (omega arith))
