use Prim.Native.Nat.{◌-◌}
use Rattle.layout.specs.Sections.{layout_of}
use Rattle.collector_marking.specs.Children.{children}
use Rattle.collector_marking.proofs.Scanning.{Tracing}
use Rattle.collector_marking.proofs.Marker.trace.Given as goal

abbrev pub invariant-loop-v : goal.invariant-loop-v
invariant-loop-v l = Tracing (children (layout_of l.layout.bytes.now) l.initial.self.slots.now l.scalars l.cells) l.initial.self l.visited l.self l.v

abbrev pub decreases-loop-v : goal.decreases-loop-v
decreases-loop-v l = l.initial.self.fresh - l.v
