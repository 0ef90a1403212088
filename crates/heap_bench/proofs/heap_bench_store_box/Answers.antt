use Rattle.std.proofs.Common.{refl, rules}
use Rattle.heap_bench.proofs.Laws.{run-start, run_end, run_turn}
use Rattle.heap_bench.proofs.heap_bench_store_box.Goals as goal

pub loop-i-init : goal.loop-i-init
loop-i-init c = run-start _ _ _ _ refl c.requires.good

pub loop-i-preserved : goal.loop-i-preserved
loop-i-preserved c = run_turn _ _ _ _ _ _ _ c.loop-i-test.true (record { slots = search rules; scalars = refl; directory = refl; cells = refl }) (rw c.load-h.ensures at c.store_box.ensures) c.loop-i.invariant

pub returns : goal.returns
returns c = run_end _ _ _ _ _ c.loop-i-test.false c.loop-i.invariant _ refl
