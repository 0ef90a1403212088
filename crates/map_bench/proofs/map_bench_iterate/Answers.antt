use Rattle.std.proofs.Common.{◌≡◌, arith, sym, ap, ◌∙◌}
use Rattle.map_store.specs.Store as S
use Rattle.map_store.specs.View.{step_is}
use Rattle.map_bench.proofs.Laws.{walk_start, walk_ends, walk_on, walk_done, no_answer, some_answer}
use Rattle.map_bench.proofs.map_bench_iterate.Goals as goal

pub returns-then-is_none : goal.returns-then-is_none
returns-then-is_none c =
    walk_ends _ _ _ _ c.loop-i.invariant c.loop-i-test.true (step_is c.step-stepped.result) (rw c.load-store.ensures at c.step-stepped.ensures)
    (no_answer _ (rw c.if-is_none.true at c.is_none.ensures))

pub loop-i-preserved : goal.loop-i-preserved
loop-i-preserved c =
    let a = some_answer _ (rw c.if-is_none.false at c.is_none.ensures) in
    walk_on _ _ _ _ c.loop-i.invariant c.loop-i-test.true (step_is c.step-stepped.result) (rw c.load-store.ensures at c.step-stepped.ensures) a.0 a.1

pub returns : goal.returns
returns c = let e : c.loop-i.i ≡ c.args.n = omega arith in sym e ∙ walk_done _ _ _ _ c.loop-i.invariant c.loop-i-test.false
