-- The references of the coroutines that a view of the slots finds dropped.
use Rattle.std.specs.Prelude.{List, ℕ}
use Rattle.collector_finalizing.specs.declared.Dropped.{Dropped}
use Rattle.collector_finalizing.specs.Dropped.{dropped_slots}

abbrev pub dropped_in : Dropped → List ℕ
dropped_in d = dropped_slots d.slots.now d.scalars.now d.marks.now d.fresh
