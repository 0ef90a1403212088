use Rattle.std.proofs.Common.{refl, rules, ◌∙◌}
use Rattle.heap_bench.proofs.Laws.{fill_end, fill_start, fill_turn, made_word, run_end}
use Rattle.heap_bench.proofs.heap_bench_new_map.Goals as goal

pub loop-place-init : goal.loop-place-init
loop-place-init c = fill_start _ _ _ _ c.load-h.ensures c.requires _ refl

pub loop-place-preserved : goal.loop-place-preserved
loop-place-preserved c = fill_turn _ _ _ _ _ _ _ c.loop-place-test.true (record { slots = search rules; scalars = search rules; directory = refl; cells = refl }) c.new_map-made.ensures _ _ (c.unwrap_or.ensures ∙ made_word _) c.loop-place.invariant

pub returns-clause-ran : goal.returns-clause-ran
returns-clause-ran c = run_end _ _ _ _ _ c.loop-place-test.false c.loop-place.invariant.running _ c.save.ensures

pub returns-clause-filled : goal.returns-clause-filled
returns-clause-filled c = fill_end _ _ _ _ _ c.loop-place-test.false _ c.loop-place.invariant
