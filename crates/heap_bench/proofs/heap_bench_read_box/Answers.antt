use Rattle.std.proofs.Common.{refl, ◌∙◌}
use Rattle.heap_bench.proofs.Laws.{read_word, same_sizes, sum-end, sum-start, sum_turn}
use Rattle.heap_bench.proofs.heap_bench_read_box.Goals as goal

pub loop-w-init : goal.loop-w-init
loop-w-init c = sum-start _ _ _ _ refl c.requires

pub loop-w-preserved : goal.loop-w-preserved
loop-w-preserved c = sum_turn _ _ _ _ _ _ _ c.loop-w-test.true (same_sizes _) (rw c.load.ensures at c.read_box.ensures) _ _ (c.unwrap_or-word.ensures ∙ read_word _) c.loop-w.invariant

pub returns : goal.returns
returns c = sum-end _ _ _ _ _ c.loop-w-test.false _ c.loop-w.invariant
