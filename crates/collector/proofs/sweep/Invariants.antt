use Rattle.collector.specs.Sweep.{Swept}
use Rattle.collector.proofs.sweep.Given as goal

abbrev pub invariant-loop-i : goal.invariant-loop-i
invariant-loop-i l = Swept l.fresh l.w l.initial.slots l.scalars l.initial.list l.marks l.free l.i l.slots l.list l.t
