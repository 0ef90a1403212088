use Rattle.std.proofs.Common.{length}
use Rattle.heap.specs.State.{state}
use Rattle.heap_record.specs.Record.{loaded}
use Rattle.heap_bench.specs.Loops.{pushes}
use Rattle.heap_bench.proofs.Laws.{Running}
use Rattle.heap_bench.proofs.heap_bench_push.Given as goal

abbrev pub invariant-loop-v : goal.invariant-loop-v
invariant-loop-v l = Running (pushes l.w l.values) (length l.values) (state (loaded l.initial.heap) l.initial.slots l.scalars l.list l.initial.directory l.initial.cells) l.v-index (state l.h l.slots l.scalars l.list l.directory l.cells)
