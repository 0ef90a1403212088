use mathlib.Core.Path.{◌∙◌, sym}
use Rattle.std.proofs.lemmas.Result.{err_from_is_err_and}
use Rattle.heap_allocation.proofs.MakeLaws.{next_fits, next_more, placeable-scalars, plain_after, plain_refused, ready_self}
use Rattle.heap_allocation.proofs.making.new_with_scalars.Goals as goal

pub write_scalars-requires : goal.write_scalars-requires
write_scalars-requires c = rw c.next_slot-i.ensures (next_fits (ready_self c.requires.0 (sym c.judge_new.ensures ∙ c.in_ok-judge_new.was)).placeable)

pub place_plain-requires : goal.place_plain-requires
place_plain-requires c =
    let judged = sym c.judge_new.ensures ∙ c.in_ok-judge_new.was in
    let y = (ready_self c.requires.0 judged).placeable in
    let more = c.args.more in
    rw (c.write_scalars.ensures, c.next_slot-i.ensures) ((placeable-scalars y more).good, judged, rw (next_more y more) c.requires.1)

pub returns-in_err-judge_new : goal.returns-in_err-judge_new
returns-in_err-judge_new c =
    let p = err_from_is_err_and c.from_residual.result c.from_residual.ensures.1 in
    rw (p.1, p.2) (plain_refused c.requires.0 c.judge_new.ensures c.in_err-judge_new.was)

pub returns : goal.returns
returns c = plain_after c.args.more c.judge_new.ensures c.in_ok-judge_new.was c.next_slot-i.ensures c.write_scalars.ensures c.place_plain.ensures
