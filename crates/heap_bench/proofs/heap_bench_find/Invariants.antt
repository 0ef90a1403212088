use Rattle.std.proofs.Common.{length}
use Rattle.heap.specs.State.{state}
use Rattle.heap_record.specs.Record.{loaded}
use Rattle.heap_bench.specs.Loops.{finds}
use Rattle.heap_bench.proofs.Laws.{Summing}
use Rattle.heap_bench.proofs.heap_bench_find.Given as goal

abbrev pub invariant-loop-i : goal.invariant-loop-i
invariant-loop-i l = Summing (finds l.w l.hashes l.keys) (length l.keys) (state (loaded l.heap) l.slots l.scalars l.list l.directory l.cells) l.i (state (loaded l.heap) l.slots l.scalars l.list l.directory l.cells) l.sum
