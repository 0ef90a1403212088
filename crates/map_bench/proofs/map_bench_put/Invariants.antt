use Rattle.map_bench.specs.Loops.{put_to}
use Rattle.map_bench.proofs.Laws.{Running}
use Rattle.map_bench.proofs.map_bench_put.Given as goal

abbrev pub invariant-loop-i : goal.invariant-loop-i
invariant-loop-i l = Running (put_to l.hashes l.keys) l.fn.words l.fn.cells l.cells l.store l.i
