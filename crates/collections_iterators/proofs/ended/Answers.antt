use Rattle.collections_iterators.proofs.VisitLaws.{ends_so}
use Rattle.collections_iterators.proofs.ended.Goals as goal

pub returns : goal.returns
returns c = ends_so c.args.x
