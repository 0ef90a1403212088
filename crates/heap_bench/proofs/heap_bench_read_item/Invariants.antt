use Rattle.std.proofs.Common.{length}
use Rattle.heap.specs.State.{state}
use Rattle.heap_record.specs.Record.{loaded}
use Rattle.heap_bench.specs.Loops.{item_reads}
use Rattle.heap_bench.proofs.Laws.{Summing}
use Rattle.heap_bench.proofs.heap_bench_read_item.Given as goal

abbrev pub invariant-loop-i : goal.invariant-loop-i
invariant-loop-i l = Summing (item_reads l.words l.positions) (length l.words) (state (loaded l.heap) l.slots l.scalars l.list l.directory l.cells) l.i (state (loaded l.heap) l.slots l.scalars l.list l.directory l.cells) l.sum
