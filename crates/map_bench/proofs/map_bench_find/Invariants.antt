use Rattle.std.proofs.Common.{◌≡◌, ◌≤◌}
use Rattle.map_store.specs.View.{store_of}
use Rattle.map_bench.specs.Loops.{loaded, found_to}
use Rattle.map_bench.proofs.map_bench_find.Given as goal

abbrev pub invariant-loop-i : goal.invariant-loop-i
invariant-loop-i l = (l.found ≡ found_to l.hashes l.keys l.i (store_of (loaded l.fn.words) l.fn.cells)) × (l.found ≤ l.i)
