use Rattle.heap.specs.State.{state}
use Rattle.heap_record.specs.Record.{loaded}
use Rattle.heap_bench.specs.Loops.{pops}
use Rattle.heap_bench.proofs.Laws.{Summing}
use Rattle.heap_bench.proofs.heap_bench_pop.Given as goal

abbrev pub invariant-loop : goal.invariant-loop
invariant-loop l = Summing (pops l.w) l.n (state (loaded l.heap) l.initial.slots l.scalars l.list l.directory l.cells) l.counter (state (loaded l.heap) l.slots l.scalars l.list l.directory l.cells) l.sum
