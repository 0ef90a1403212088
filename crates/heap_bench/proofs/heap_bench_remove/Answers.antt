use Rattle.std.proofs.Common.{rules}
use Rattle.heap_bench.proofs.Laws.{run-start, run_end, run_turn}
use Rattle.heap_bench.proofs.heap_bench_remove.Goals as goal

pub loop-i-init : goal.loop-i-init
loop-i-init c = run-start _ _ _ _ c.load-h.ensures c.requires.good

pub loop-i-preserved : goal.loop-i-preserved
loop-i-preserved c = run_turn _ _ _ _ _ _ _ c.loop-i-test.true (record { slots = search rules; scalars = search rules; directory = search rules; cells = search rules }) c.remove.ensures c.loop-i.invariant

pub returns : goal.returns
returns c = run_end _ _ _ _ _ c.loop-i-test.false c.loop-i.invariant _ c.save.ensures
