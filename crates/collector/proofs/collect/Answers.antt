use Rattle.std.proofs.lemmas.Result.{err_from_is_err_and}
use Rattle.account.specs.Account.{saturated}
use Rattle.layout.specs.Sections.{layout_of}
use Rattle.collector.proofs.Promise.{good_sweepable, rested-length, heap_is, ended-short, refused_so, ended-swept, promise_short, promise_swept}
use Rattle.collector.proofs.collect.Goals as goal

pub collect_slots-requires-clause-sweepable : goal.collect_slots-requires-clause-sweepable
collect_slots-requires-clause-sweepable c = good_sweepable c.requires.good _ (rested-length c.requires.good c.requires.rested)

pub returns-in_err-tally-clause-does : goal.returns-in_err-tally-clause-does
returns-in_err-tally-clause-does c =
    let p = err_from_is_err_and c.from_residual.result c.from_residual.ensures.1 in
    rw (p.1, p.2, refused_so c.collect_slots.ensures c.in_err-tally.was) (promise_short (layout_of c.args.layout.bytes.now) c.args.heap.now c.args.slots.now c.args.scalars.now c.args.list.now c.args.directory.now c.args.cells.now c.requires.good c.args.roots.now c.args.places.now c.args.marks.now c.args.order.now (ended-short c.collect_slots.ensures c.in_err-tally.was))

pub returns-clause-does : goal.returns-clause-does
unfolding saturated
returns-clause-does c = promise_swept (layout_of c.args.layout.bytes.now) c.args.heap.now c.args.slots.now c.args.scalars.now c.args.list.now c.args.directory.now c.args.cells.now c.requires.good c.args.roots.now c.args.places.now c.args.marks.now c.args.order.now (ended-swept c.collect_slots.ensures c.in_ok-tally.was) (heap_is c.args.heap.now _ c.after_sweep.ensures c.saturating_add.ensures c.saturating_add-2.ensures)
