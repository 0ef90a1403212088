use mathlib.Core.Path.{◌∙◌, sym}
use Rattle.std.proofs.lemmas.Result.{err_from_is_err_and}
use Rattle.heap_allocation.proofs.MakeLaws.{plain_accepted, plain_refused}
use Rattle.heap_allocation.proofs.making.new_plain.Goals as goal

pub place_plain-requires : goal.place_plain-requires
place_plain-requires c = (c.requires.0, sym c.judge_new.ensures ∙ c.in_ok-judge_new.was, c.requires.1 _)

pub returns-in_err-judge_new : goal.returns-in_err-judge_new
returns-in_err-judge_new c =
    let p = err_from_is_err_and c.from_residual.result c.from_residual.ensures.1 in
    rw (p.1, p.2) (plain_refused c.requires.0 c.judge_new.ensures c.in_err-judge_new.was)

pub returns : goal.returns
returns c = plain_accepted c.judge_new.ensures c.in_ok-judge_new.was c.place_plain.ensures
