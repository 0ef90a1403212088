use Rattle.std.proofs.Common.{refl, rules}
use Rattle.heap_bench.proofs.Laws.{run-start, run_end, run_turn}
use Rattle.heap_bench.proofs.heap_bench_push.Goals as goal

pub loop-v-init : goal.loop-v-init
loop-v-init c = run-start _ _ _ _ c.load-h.ensures c.requires

pub loop-v-preserved : goal.loop-v-preserved
loop-v-preserved c = run_turn _ _ _ _ _ _ _ c.loop-v-test.true (record { slots = search rules; scalars = refl; directory = search rules; cells = search rules }) c.push.ensures c.loop-v.invariant

pub returns : goal.returns
returns c = run_end _ _ _ _ _ c.loop-v-test.false c.loop-v.invariant _ c.save.ensures
