use Rattle.std.proofs.Common.{length}
use Rattle.heap.specs.State.{state}
use Rattle.heap_record.specs.Record.{loaded}
use Rattle.heap_bench.specs.Loops.{arrays}
use Rattle.heap_bench.proofs.Laws.{Filling}
use Rattle.heap_bench.proofs.heap_bench_new_array.Given as goal

abbrev pub invariant-loop-place : goal.invariant-loop-place
invariant-loop-place l = Filling (arrays l.t l.size) (length l.initial.out) (state (loaded l.initial.heap) l.initial.slots l.scalars l.list l.initial.directory l.initial.cells) l.place-index (state l.h l.slots l.scalars l.list l.directory l.cells) l.out
