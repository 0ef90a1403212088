use mathlib.Core.Path.{ap}
use mathlib.Core.List.{List}
use Prim.Native.Nat.{ℕ}
use native.Mathlib.Omega.{arith}
use Rattle.std.proofs.Common.{get_or, Bor}
use Rattle.layout.specs.Sections.{layout_of}
use Rattle.collector_marking.specs.Children.{children}
use Rattle.collector_marking.proofs.Scanning.{scanning_few, scanning_room, scanning-end, scanning_slot, tracing_step, scanning_marks}
use Rattle.collector_marking.proofs.Marker.trace.Goals as goal

pub offset_bounds-self-v : goal.offset_bounds-self-v
offset_bounds-self-v c = omega (arith, scanning_room c.loop-v.invariant.scanning, c.loop-v-test.true)

pub bounds-self-v : goal.bounds-self-v
bounds-self-v c = omega (arith, scanning_room c.loop-v.invariant.scanning, c.loop-v-test.true)

pub overflow_add-v : goal.overflow_add-v
overflow_add-v c = omega (arith, scanning_room c.loop-v.invariant.scanning, c.loop-v-test.true)

pub loop-v-smaller : goal.loop-v-smaller
loop-v-smaller c = omega (arith, scanning_few c.loop-v.invariant.scanning, c.loop-v-test.true)

pub loop-v-preserved : goal.loop-v-preserved
loop-v-preserved c = tracing_step c.loop-v.invariant c.loop-v-test.true (ap (λ (s : Bor (List ℕ)). children (layout_of c.args.layout.bytes.now) s.now c.args.scalars.now c.args.cells.now (get_or c.loop-v.self.order.now c.loop-v.v 0)) c.loop-v.invariant.same.slots) c.mark_next.ensures

pub mark_next-requires-clause-present : goal.mark_next-requires-clause-present
mark_next-requires-clause-present c = rw (c.loop-v.invariant.same.slots, c.loop-v.invariant.same.fresh) (scanning_slot c.loop-v.invariant.scanning c.loop-v-test.true)

pub mark_next-requires-clause-sound : goal.mark_next-requires-clause-sound
mark_next-requires-clause-sound c = rw (c.loop-v.invariant.same.slots, c.loop-v.invariant.same.fresh) c.requires.sound

pub returns-clause-marks_after : goal.returns-clause-marks_after
returns-clause-marks_after c = scanning_marks c.loop-v.invariant.scanning c.loop-v-test.false

pub returns-clause-scanned : goal.returns-clause-scanned
returns-clause-scanned c = scanning-end c.loop-v.invariant.scanning
