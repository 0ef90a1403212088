use Rattle.std.proofs.Common.{◌≡◌, length, arith, refl}
use Rattle.map_store.specs.GoodLaws.{key-cells}
use Rattle.map_bench.proofs.Laws.{run-start, run_end, remove_zero, remove-noted, remove-done}
use Rattle.map_bench.proofs.map_bench_remove.Goals as goal

pub loop-i-init : goal.loop-i-init
loop-i-init c = run-start _ _ _ _ c.load-store.ensures (remove_zero _ _) c.requires.good

pub returns-then-map-cells_after_remove : goal.returns-then-map-cells_after_remove
returns-then-map-cells_after_remove c = run_end _ _ _ _ _ _ c.loop-i.invariant (remove-noted _ _ _) _ c.save.ensures

pub remove_key-requires-clause-room : goal.remove_key-requires-clause-room
remove_key-requires-clause-room c = key-cells _ _ _ _ _ c.loop-i.invariant.good (rw c.cells_after_remove.ensures at c.if-map-cells_after_remove.false)

pub loop-i-preserved : goal.loop-i-preserved
loop-i-preserved c = remove-done _ _ _ _ _ _ _ c.loop-i.invariant _ _ refl refl _ _ _ c.remove_key.ensures c.remove_key.auto.cells

pub returns : goal.returns
returns c =
    let end : c.loop-i.i ≡ length c.args.keys.now = omega arith in
    rw (← end) (run_end _ _ _ _ _ _ c.loop-i.invariant (remove-noted _ _ _) _ c.save-2.ensures)
