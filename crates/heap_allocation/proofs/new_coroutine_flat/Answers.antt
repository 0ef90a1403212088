use Rattle.std.proofs.lemmas.Result.{err_from_is_err_and}
use Rattle.heap.proofs.KindLaws.{length-frames_in}
use Rattle.heap_allocation.proofs.CoroutineLaws.{words-put}
use Rattle.heap_allocation.proofs.new_coroutine_flat.Goals as goal

pub returns-in_err-b : goal.returns-in_err-b
returns-in_err-b c =
    let p = err_from_is_err_and c.from_residual.result c.from_residual.ensures.1 in
    rw (p.1, p.2) (c.begin.ensures.refused _ c.in_err-b.was _ (length-frames_in c.args.frames.now 0 _))

pub returns : goal.returns
returns c = words-put c.args.frames.now c.begin.ensures c.in_ok-b.was c.copy_words.ensures
