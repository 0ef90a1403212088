use Rattle.std.proofs.Common.{◌≡◌, length, arith, refl, sym, ◌∙◌}
use Rattle.map_bench.proofs.Laws.{run-start, run_end, put_zero, put-noted, put-done, put_stop}
use Rattle.map_bench.proofs.map_bench_put.Goals as goal

pub loop-i-init : goal.loop-i-init
loop-i-init c = run-start _ _ _ _ c.load-store.ensures (put_zero _ _) c.requires.good

pub returns-then-is_err : goal.returns-then-is_err
returns-then-is_err c =
    run_end _ _ _ _ _ _ (put_stop _ _ _ _ _ _ _ c.loop-i.invariant _ _ _ _ _ _ (sym c.is_err.ensures.value ∙ c.if-is_err.true) c.put.ensures) (put-noted _ _ _) _ c.save.ensures

pub loop-i-preserved : goal.loop-i-preserved
loop-i-preserved c =
    put-done _ _ _ _ _ _ _ c.loop-i.invariant _ _ _ _ _ refl refl refl _ (sym c.is_err.ensures.value ∙ c.if-is_err.false) c.put.ensures c.put.auto.cells

pub returns : goal.returns
returns c =
    let end : c.loop-i.i ≡ length c.args.keys.now = omega arith in
    rw (← end) (run_end _ _ _ _ _ _ c.loop-i.invariant (put-noted _ _ _) _ c.save-2.ensures)
