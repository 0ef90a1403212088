use Rattle.std.proofs.Common.{length}
use Rattle.heap.specs.State.{state}
use Rattle.heap_record.specs.Record.{loaded}
use Rattle.heap_bench.specs.Loops.{boxes}
use Rattle.heap_bench.proofs.Laws.{Filling}
use Rattle.heap_bench.proofs.heap_bench_new_box.Given as goal

abbrev pub invariant-loop-place : goal.invariant-loop-place
invariant-loop-place l = Filling (boxes l.w) (length l.initial.out) (state (loaded l.initial.heap) l.initial.slots l.scalars l.list l.directory l.cells) l.place-index (state l.h l.slots l.scalars l.list l.directory l.cells) l.out
