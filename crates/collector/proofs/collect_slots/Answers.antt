use Rattle.std.proofs.lemmas.Result.{err_from_is_err_and}
use Rattle.layout.specs.Sections.{layout_of}
use Rattle.collector_finalizing.proofs.Keeping.{scanned-room}
use Rattle.collector.proofs.Ends.{kept-done, listed-slots, finalized_sweepable, collects, ends_short, ends-swept}
use Rattle.collector.proofs.collect_slots.Goals as goal

pub returns-in_err-kept : goal.returns-in_err-kept
returns-in_err-kept c =
    let p = err_from_is_err_and c.from_residual.result c.from_residual.ensures.1 in
    rw (p.1, p.2) (ends_short c.mark_kept.ensures c.in_err-kept.was _ _ _ _)

pub finalize-requires : goal.finalize-requires
finalize-requires c = listed-slots (layout_of c.args.layout.bytes.now) c.args.slots.now c.args.scalars.now c.args.cells.now c.args.fresh c.args.roots.now (kept-done c.mark_kept.ensures c.in_ok-kept.was) c.requires.sound.slots_max c.requires.sound.scalars_fit

pub sweep-tally-requires : goal.sweep-tally-requires
sweep-tally-requires c = finalized_sweepable _ c.requires.sweepable (kept-done c.mark_kept.ensures c.in_ok-kept.was).scanned.marks_length c.finalize.ensures

pub unmark-requires : goal.unmark-requires
unmark-requires c = scanned-room c.requires.blanks (kept-done c.mark_kept.ensures c.in_ok-kept.was).scanned

pub returns : goal.returns
returns c = ends-swept (collects c.requires.blanks (kept-done c.mark_kept.ensures c.in_ok-kept.was) c.finalize.ensures c.sweep-tally.ensures c.unmark.ensures)
