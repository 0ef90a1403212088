use Rattle.collector_marking.proofs.Adding.{going_start, going_step, going_end}
use Rattle.collector_marking.proofs.Traced.{from_zero, entries-front, entries-end}
use Rattle.collector_marking.proofs.Marker.mark_entries.Goals as goal

pub loop-p-init : goal.loop-p-init
loop-p-init c = rw (from_zero _) going_start

pub loop-p-preserved : goal.loop-p-preserved
loop-p-preserved c = going_step c.loop-p.invariant (entries-front _ _ _ _ _ c.loop-p-test.true) c.mark_entry.ensures

pub returns : goal.returns
returns c = going_end c.loop-p.invariant (entries-end _ _ _ _ _ c.loop-p-test.false)
