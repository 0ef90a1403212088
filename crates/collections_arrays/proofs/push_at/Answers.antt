use native.Mathlib.Omega.{arith}
use Rattle.std.proofs.lemmas.Result.{err_from_is_err_and}
use Rattle.account.specs.AccountLaws.{charge-next, charge-over}
use Rattle.heap.specs.Answers.{seen_by}
use Rattle.collections_arrays.proofs.ArrayLaws.{array_at, array-inside}
use Rattle.collections_arrays.proofs.PushLaws.{push-done, push_extends, push-full, push-more, push-over, size_small}
use Rattle.collections_arrays.proofs.push_at.Goals as goal

pub push_size-size-requires : goal.push_size-size-requires
push_size-size-requires c = size_small (array_at c.requires.good c.requires.array c.read_header-h.ensures)

pub overflow_sub-more : goal.overflow_sub-more
overflow_sub-more c = omega (arith, c.push_size-size.ensures, (push-more _ _ (array-inside (array_at c.requires.good c.requires.array c.read_header-h.ensures)).0).0)

pub push_bytes-requires : goal.push_bytes-requires
push_bytes-requires c = size_small (array_at c.requires.good c.requires.array c.read_header-h.ensures)

pub overflow_sub-cells : goal.overflow_sub-cells
overflow_sub-cells c = c.requires.good.cells_fit

pub returns-then-cells-heap : goal.returns-then-cells-heap
unfolding seen_by
returns-then-cells-heap c =
    push-full (array_at c.requires.good c.requires.array c.read_header-h.ensures) c.push_bytes.ensures (charge-next _ _ c.charge.ensures c.in_ok-account.was).0 c.push_size-size.ensures c.if-cells-heap.true

pub push_grown-requires : goal.push_grown-requires
push_grown-requires c = record { good = c.requires.good; room = push_extends (array_at c.requires.good c.requires.array c.read_header-h.ensures) c.push_size-size.ensures c.if-cells-heap.false }

pub returns-in_err-account : goal.returns-in_err-account
unfolding seen_by
returns-in_err-account c =
    let p = err_from_is_err_and c.from_residual.result c.from_residual.ensures.1 in
    rw (p.1, p.2) (push-over (array_at c.requires.good c.requires.array c.read_header-h.ensures) c.push_bytes.ensures (charge-over _ _ c.charge.ensures c.in_err-account.was))

pub returns : goal.returns
unfolding seen_by
returns c = push-done (array_at c.requires.good c.requires.array c.read_header-h.ensures) c.push_size-size.ensures c.if-cells-heap.false c.push_grown.ensures c.push_bytes.ensures (charge-next _ _ c.charge.ensures c.in_ok-account.was)
