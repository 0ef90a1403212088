use mathlib.Core.Path.{refl}
use Rattle.std.proofs.lemmas.Result.{err_from_is_err_and}
use Rattle.heap_cells.proofs.MoveLaws.{filled-region}
use Rattle.heap_allocation.proofs.MakeLaws.{region-ready}
use Rattle.heap_allocation.proofs.RegionLaws.{above_filled, words-made, words-object, words-refused}
use lib.ListN.{replicate}
use native.Mathlib.Omega.{arith}
use Rattle.heap_allocation.proofs.making.new_items.Goals as goal

pub finish-requires : goal.finish-requires
finish-requires c =
    let y = c.prepare.ensures.accepted c.in_ok-prepare.was in
    (region-ready y (above_filled c.fill.ensures) (filled-region c.fill.ensures y.placeable.region)
    (words-object 6 0 c.args.t c.args.n _ (omega arith) (omega arith) (λ z. absurd (omega (arith, z)))))

pub returns-in_err-prepare : goal.returns-in_err-prepare
returns-in_err-prepare c =
    let p = err_from_is_err_and c.from_residual.result c.from_residual.ensures.1 in
    rw (p.1, p.2) (words-refused c.prepare.ensures 6 0 c.args.t (replicate c.args.n 0) c.in_err-prepare.was c.with_each-bytes.ensures)

pub returns : goal.returns
returns c =
    let y = c.prepare.ensures.accepted c.in_ok-prepare.was in
    words-made c.prepare.ensures 6 0 c.args.t c.in_ok-prepare.was (above_filled c.fill.ensures) (filled-region c.fill.ensures y.placeable.region) refl c.with_each-bytes.ensures c.finish.ensures
