use Rattle.collector_marking.proofs.Adding.{going_start, going_step, going_end}
use Rattle.collector_marking.proofs.Traced.{from_zero, frames-front, frames-end}
use Rattle.collector_marking.proofs.Marker.mark_frames.Goals as goal

pub loop-j-init : goal.loop-j-init
loop-j-init c = rw (from_zero _) going_start

pub loop-j-preserved : goal.loop-j-preserved
loop-j-preserved c = going_step c.loop-j.invariant (frames-front _ _ _ _ _ c.loop-j-test.true) c.mark_frame.ensures

pub returns : goal.returns
returns c = going_end c.loop-j.invariant (frames-end _ _ _ _ _ c.loop-j-test.false)
