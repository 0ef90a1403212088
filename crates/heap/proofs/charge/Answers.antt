use Rattle.std.proofs.lemmas.Result.{err_from_is_err_and}
use Rattle.heap.proofs.CallLaws.{charge-accepted, charge-refused}
use Rattle.heap.specs.Answers.{seen_by}
use Rattle.heap.proofs.charge.Goals as goal

pub returns-in_err-heap : goal.returns-in_err-heap
unfolding seen_by
returns-in_err-heap c =
    let p = err_from_is_err_and c.from_residual.result c.from_residual.ensures.1 in
    rw (p.1, p.2) (charge-refused c.requires c.charge.ensures c.in_err-heap.was)

pub returns : goal.returns
unfolding seen_by
returns c = charge-accepted c.requires c.charge.ensures c.in_ok-heap.was
