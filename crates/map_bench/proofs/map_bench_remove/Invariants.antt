use Rattle.map_bench.specs.Loops.{removed_to}
use Rattle.map_bench.proofs.Laws.{Running}
use Rattle.map_bench.proofs.map_bench_remove.Given as goal

abbrev pub invariant-loop-i : goal.invariant-loop-i
invariant-loop-i l = Running (removed_to l.hashes l.keys) l.fn.words l.fn.cells l.cells l.store l.i
