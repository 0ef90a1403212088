use Rattle.std.proofs.Common.{length}
use Rattle.heap.specs.State.{state}
use Rattle.heap_record.specs.Record.{loaded}
use Rattle.heap_bench.specs.Loops.{removals}
use Rattle.heap_bench.proofs.Laws.{Running}
use Rattle.heap_bench.proofs.heap_bench_remove.Given as goal

abbrev pub invariant-loop-i : goal.invariant-loop-i
invariant-loop-i l = Running (removals l.w l.hashes l.keys) (length l.keys) (state (loaded l.initial.heap) l.initial.slots l.initial.scalars l.list l.initial.directory l.initial.cells) l.i (state l.h l.slots l.scalars l.list l.directory l.cells)
