use Rattle.std.proofs.Common.{arith}
use Rattle.map_bench.proofs.Laws.{count_some, count_none, met_zero}
use Rattle.map_bench.proofs.map_bench_find.Goals.{in-Some, in_default}
use Rattle.map_bench.proofs.map_bench_find.Goals as goal

pub loop-i-init : goal.loop-i-init
loop-i-init c = (met_zero _, omega arith)

pub loop-i-preserved : goal.loop-i-preserved
loop-i-preserved c =
    let e = rw c.load-store.ensures at c.find.ensures in
    elim c.match-find.branch [
      | in-Some w ↦ rw w.found-is (count_some _ _ _ c.loop-i.invariant (rw w.in-Some.is at e))
      | in_default w ↦ rw w.found-is (count_none _ _ _ c.loop-i.invariant (rw w.in_default.is at e))
    ]
