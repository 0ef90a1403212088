use mathlib.Core.Path.{refl}
use Prim.Native.Nat.{◌*◌, ◌+◌}
use native.Mathlib.Omega.{arith}
use lib.ListN.{length}
use Rattle.std.proofs.lemmas.Result.{err_from_is_err_and}
use Rattle.heap_allocation.proofs.CoroutineLaws.{accepted-size, begun, prepared_exact, refused_begun, refused-state, seated-err}
use Rattle.heap_allocation.proofs.begin.Goals as goal

pub returns-then-k-gt4 : goal.returns-then-k-gt4
returns-then-k-gt4 c = refused-state c.requires c.if-k-gt4.true

pub overflow_add-at : goal.overflow_add-at
overflow_add-at c = let y = ((prepared_exact (length c.args.registers.now + 4 * c.args.frames) c.requires c.with_each-size.ensures c.prepare.ensures).accepted c.in_ok-prepare.was).placeable in record { fits = omega (arith, y.region, y.good.laid.cells_max) }

pub place_coroutine-requires : goal.place_coroutine-requires
place_coroutine-requires c = ((c.prepare.ensures.accepted c.in_ok-prepare.was).placeable, accepted-size (length c.args.registers.now + 4 * c.args.frames) c.with_each-size.ensures c.prepare.ensures c.in_ok-prepare.was)

pub returns-in_err-prepare : goal.returns-in_err-prepare
returns-in_err-prepare c =
    let p = err_from_is_err_and c.from_residual.result c.from_residual.ensures.1 in
    rw (p.1, p.2) (refused_begun c.requires c.if-k-gt4.false c.coroutine_bytes-bytes.ensures (prepared_exact (length c.args.registers.now + 4 * c.args.frames) c.requires c.with_each-size.ensures c.prepare.ensures) c.in_err-prepare.was)

pub returns-in_err-word : goal.returns-in_err-word
returns-in_err-word c = absurd (seated-err c.place_coroutine.ensures c.in_err-word.was)

pub returns : goal.returns
returns c =
    let size = length c.args.registers.now + 4 * c.args.frames in
    let e = accepted-size size c.with_each-size.ensures c.prepare.ensures c.in_ok-prepare.was in
    begun c.requires c.if-k-gt4.false c.coroutine_bytes-bytes.ensures ((prepared_exact size c.requires c.with_each-size.ensures c.prepare.ensures).accepted c.in_ok-prepare.was)
    (rw e at c.place_coroutine.ensures) c.in_ok-word.was refl
