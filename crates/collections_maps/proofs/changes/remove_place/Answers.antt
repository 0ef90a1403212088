use Rattle.heap.specs.Answers.{seen_by}
use Rattle.collections_maps.proofs.GrownLaws.{removal_done, removal_full, removal_ready}
use Rattle.collections_maps.proofs.changes.remove_place.Goals as goal

pub returns-then-cells-heap : goal.returns-then-cells-heap
unfolding seen_by
returns-then-cells-heap c = removal_full c.requires.good c.requires.map c.removal_of-p.ensures c.if-cells-heap.true

pub overflow_sub-cells : goal.overflow_sub-cells
overflow_sub-cells c = c.requires.good.cells_fit

pub remove_grown-requires : goal.remove_grown-requires
remove_grown-requires c = record { good = c.requires.good; ready = removal_ready c.requires.good c.requires.map c.removal_of-p.ensures c.if-cells-heap.false }

pub returns : goal.returns
unfolding seen_by
returns c = removal_done c.requires.good c.requires.map c.removal_of-p.ensures c.if-cells-heap.false c.remove_grown.ensures
