use Rattle.std.proofs.Common.{length}
use Rattle.heap.specs.State.{state}
use Rattle.heap_record.specs.Record.{loaded}
use Rattle.heap_bench.specs.Loops.{item_stores}
use Rattle.heap_bench.proofs.Laws.{Running}
use Rattle.heap_bench.proofs.heap_bench_store_item.Given as goal

abbrev pub invariant-loop-i : goal.invariant-loop-i
invariant-loop-i l = Running (item_stores l.words l.positions l.v) (length l.words) (state (loaded l.heap) l.slots l.scalars l.list l.directory l.initial.cells) l.i (state (loaded l.heap) l.slots l.scalars l.list l.directory l.cells)
