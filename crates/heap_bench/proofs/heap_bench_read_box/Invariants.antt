use Rattle.std.proofs.Common.{length}
use Rattle.heap.specs.State.{state}
use Rattle.heap_record.specs.Record.{loaded}
use Rattle.heap_bench.specs.Loops.{box_reads}
use Rattle.heap_bench.proofs.Laws.{Summing}
use Rattle.heap_bench.proofs.heap_bench_read_box.Given as goal

abbrev pub invariant-loop-w : goal.invariant-loop-w
invariant-loop-w l = Summing (box_reads l.words) (length l.words) (state (loaded l.heap) l.slots l.scalars l.list l.directory l.cells) l.w-index (state (loaded l.heap) l.slots l.scalars l.list l.directory l.cells) l.sum
