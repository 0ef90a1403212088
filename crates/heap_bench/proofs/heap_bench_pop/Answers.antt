use Rattle.std.proofs.Common.{refl, rules, ◌∙◌}
use Rattle.heap_bench.proofs.Laws.{read_word, run_end, sum-end, sum-start, sum_turn}
use Rattle.heap_bench.proofs.heap_bench_pop.Goals as goal

pub loop-init : goal.loop-init
loop-init c = sum-start _ _ _ _ refl c.requires

pub loop-preserved : goal.loop-preserved
loop-preserved c = sum_turn _ _ _ _ _ _ _ c.loop-test.true (record { slots = search rules; scalars = refl; directory = refl; cells = refl }) (rw c.load-h.ensures at c.pop-item.ensures) _ _ (c.unwrap_or-sum.ensures ∙ read_word _) c.loop.invariant

pub returns-clause-ran : goal.returns-clause-ran
returns-clause-ran c = run_end _ _ _ _ _ c.loop-test.false c.loop.invariant.running _ refl

pub returns-clause-summed : goal.returns-clause-summed
returns-clause-summed c = sum-end _ _ _ _ _ c.loop-test.false _ c.loop.invariant
