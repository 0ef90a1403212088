use Rattle.std.proofs.lemmas.Result.{err_from_is_err_and}
use Rattle.account.specs.AccountLaws.{charge-next, charge-over}
use Rattle.heap.specs.Answers.{seen_by}
use Rattle.collections_maps.proofs.GrownLaws.{insertion_done, insertion_full, insertion_over, insertion_ready, insertion_spent}
use Rattle.collections_maps.proofs.changes.insert_at.Goals as goal

pub returns-then-p-ge4294967296 : goal.returns-then-p-ge4294967296
unfolding seen_by
returns-then-p-ge4294967296 c = insertion_spent c.requires.good c.requires.map c.insertion_of-p.ensures c.if-p-ge4294967296.true

pub overflow_sub-cells : goal.overflow_sub-cells
overflow_sub-cells c = c.requires.good.cells_fit

pub returns-then-cells-heap : goal.returns-then-cells-heap
unfolding seen_by
returns-then-cells-heap c = insertion_full c.requires.good c.requires.map c.insertion_of-p.ensures c.if-p-ge4294967296.false (charge-next _ _ c.charge.ensures c.in_ok-account.was).0 c.if-cells-heap.true

pub insert_grown-requires : goal.insert_grown-requires
insert_grown-requires c =
    record { good = c.requires.good; ready = insertion_ready c.requires.good c.requires.map c.insertion_of-p.ensures c.if-cells-heap.false; number = c.if-p-ge4294967296.false }

pub returns-in_err-account : goal.returns-in_err-account
unfolding seen_by
returns-in_err-account c =
    let p = err_from_is_err_and c.from_residual.result c.from_residual.ensures.1 in
    rw (p.1, p.2) (insertion_over c.requires.good c.requires.map c.insertion_of-p.ensures c.if-p-ge4294967296.false (charge-over _ _ c.charge.ensures c.in_err-account.was))

pub returns : goal.returns
unfolding seen_by
returns c = insertion_done c.requires.good c.requires.map c.insertion_of-p.ensures c.if-p-ge4294967296.false c.if-cells-heap.false c.insert_grown.ensures (charge-next _ _ c.charge.ensures c.in_ok-account.was)
