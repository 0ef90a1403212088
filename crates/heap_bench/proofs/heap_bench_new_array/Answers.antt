use Rattle.std.proofs.Common.{ap, refl, rules, ℤ, to_z-of_z, ◌∙◌}
use Rattle.heap_bench.specs.Loops.{arrays}
use Rattle.heap_bench.proofs.Laws.{fill_end, fill_start, fill_turn, filled-same, made_word, ran_same, run_end}
use Rattle.heap_bench.proofs.heap_bench_new_array.Goals as goal

pub loop-place-init : goal.loop-place-init
loop-place-init c = fill_start _ _ _ _ c.load-h.ensures c.requires _ refl

pub loop-place-preserved : goal.loop-place-preserved
loop-place-preserved c = fill_turn _ _ _ _ _ _ _ c.loop-place-test.true (record { slots = search rules; scalars = refl; directory = search rules; cells = search rules }) c.new_array-made.ensures _ _ (c.unwrap_or.ensures ∙ made_word _) c.loop-place.invariant

pub returns-clause-ran : goal.returns-clause-ran
returns-clause-ran c = ran_same (ap (λ (z : ℤ). arrays c.args.t z) (to_z-of_z c.ranges.size)) (run_end _ _ _ _ _ c.loop-place-test.false c.loop-place.invariant.running _ c.save.ensures)

pub returns-clause-filled : goal.returns-clause-filled
returns-clause-filled c = filled-same (ap (λ (z : ℤ). arrays c.args.t z) (to_z-of_z c.ranges.size)) _ (fill_end _ _ _ _ _ c.loop-place-test.false _ c.loop-place.invariant)
