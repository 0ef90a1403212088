use Rattle.std.proofs.Common.{refl, ◌∙◌}
use Rattle.heap_bench.proofs.Laws.{read_word, same_sizes, sum-end, sum-start, sum_turn}
use Rattle.heap_bench.proofs.heap_bench_read_item.Goals as goal

pub loop-i-init : goal.loop-i-init
loop-i-init c = sum-start _ _ _ _ refl c.requires.good

pub loop-i-preserved : goal.loop-i-preserved
loop-i-preserved c = sum_turn _ _ _ _ _ _ _ c.loop-i-test.true (same_sizes _) (rw c.load.ensures at c.read_item.ensures) _ _ (c.unwrap_or-item.ensures ∙ read_word _) c.loop-i.invariant

pub returns : goal.returns
returns c = sum-end _ _ _ _ _ c.loop-i-test.false _ c.loop-i.invariant
