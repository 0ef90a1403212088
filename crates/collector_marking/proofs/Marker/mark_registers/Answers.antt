use Rattle.collector_marking.proofs.Adding.{going_start, going_step, going_end}
use Rattle.collector_marking.proofs.Traced.{register-front, registers-end}
use Rattle.collector_marking.proofs.Marker.mark_registers.Goals as goal

pub loop-number-init : goal.loop-number-init
loop-number-init c = going_start

pub loop-number-preserved : goal.loop-number-preserved
loop-number-preserved c = going_step c.loop-number.invariant (register-front _ _ _ c.in-Some.ensures.lists) c.mark_at.ensures

pub returns : goal.returns
returns c = going_end c.loop-number.invariant (registers-end _ _ c.in_default.ensures)
