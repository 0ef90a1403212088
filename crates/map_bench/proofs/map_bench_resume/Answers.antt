use Rattle.std.proofs.Common.{arith, ap}
use Rattle.map_store.specs.Store as S
use Rattle.map_bench.proofs.Laws.{count_some, count_none, met_zero}
use Rattle.map_bench.proofs.map_bench_resume.Goals.{in-Some, in_default}
use Rattle.map_bench.proofs.map_bench_resume.Goals as goal

pub loop-last-init : goal.loop-last-init
loop-last-init c = (met_zero _, omega arith)

pub loop-last-preserved : goal.loop-last-preserved
loop-last-preserved c =
    let e = ap (λ (t : S.Step). t.answer) (rw c.load-store.ensures at c.step.ensures) in
    elim c.match-step.branch [
      | in-Some w ↦ rw w.met-is (count_some _ _ _ c.loop-last.invariant (rw w.in-Some.is at e))
      | in_default w ↦ rw w.met-is (count_none _ _ _ c.loop-last.invariant (rw w.in_default.is at e))
    ]
