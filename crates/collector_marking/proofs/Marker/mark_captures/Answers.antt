use Prim.Native.Nat.{◌<◌, ◌≤◌}
use lib.ListN.{length}
use native.Mathlib.Omega.{arith}
use Rattle.collector_marking.proofs.Adding.{going_start, going_step, going_end}
use Rattle.collector_marking.proofs.Traced.{capture-front, capture-short, capture-end}
use Rattle.collector_marking.proofs.Marker.mark_captures.Goals as goal

pub returns-in_default : goal.returns-in_default
returns-in_default c = going_end c.loop-capture.invariant (capture-end c.args.captures.now c.loop-capture.capture-index c.in_default.ensures)

pub loop-capture-preserved : goal.loop-capture-preserved
loop-capture-preserved c = going_step c.loop-capture.invariant (let h : c.loop-capture.capture-index < length c.args.captures.now = omega arith in capture-front _ _ _ h c.in-Some.ensures.lists) c.mark_typed.ensures

pub returns : goal.returns
returns c = going_end c.loop-capture.invariant (let h : length c.args.captures.now ≤ c.loop-capture.capture-index = omega arith in capture-short _ _ _ h)

pub loop-capture-init : goal.loop-capture-init
loop-capture-init c = going_start
