use Rattle.std.proofs.Common.{◌≡◌, ◌≤◌}
use Rattle.map_store.specs.View.{store_of}
use Rattle.map_bench.specs.Loops.{loaded, resumed_to}
use Rattle.map_bench.proofs.map_bench_resume.Given as goal

abbrev pub invariant-loop-last : goal.invariant-loop-last
invariant-loop-last l = (l.met ≡ resumed_to l.epoch l.lasts l.last-index (store_of (loaded l.fn.words) l.fn.cells)) × (l.met ≤ l.last-index)
