use Rattle.collections_iterators.proofs.VisitLaws.{array-ends, array_visits}
use Rattle.collections_iterators.proofs.visit_array.Goals as goal

pub returns-then-h-x : goal.returns-then-h-x
returns-then-h-x c = array-ends c.requires.array c.if-h-x.true c.requires.epoch c.ended.ensures

pub returns : goal.returns
returns c = array_visits c.requires.array c.if-h-x.false c.item-w.ensures c.moved_to.ensures
