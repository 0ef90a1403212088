use mathlib.Core.Path.{refl}
use Rattle.std.proofs.lemmas.Result.{err_from_is_err_and}
use Rattle.heap_allocation.proofs.FrameLaws.{frames-put}
use Rattle.heap_allocation.proofs.new_coroutine.Goals as goal

pub returns-in_err-b : goal.returns-in_err-b
returns-in_err-b c =
    let p = err_from_is_err_and c.from_residual.result c.from_residual.ensures.1 in
    rw (p.1, p.2) (c.begin.ensures.refused _ c.in_err-b.was c.args.frames.now refl)

pub returns : goal.returns
returns c = frames-put c.args.frames.now c.begin.ensures c.in_ok-b.was c.copy_frames.ensures
