use Rattle.map_store.specs.View.{store_of, cursor_is}
use Rattle.map_bench.specs.Loops.{loaded}
use Rattle.map_bench.proofs.Laws.{Walking}
use Rattle.map_bench.proofs.map_bench_iterate.Given as goal

abbrev pub invariant-loop-i : goal.invariant-loop-i
invariant-loop-i l = Walking l.n l.i (store_of (loaded l.fn.words) l.fn.cells) (cursor_is l.cursor)
