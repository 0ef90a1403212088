use Rattle.std.proofs.lemmas.Result.{err_from_is_err_and}
use Rattle.heap_allocation.proofs.MakeLaws.{prepared_none, prepared_refused, prepared_room, room-left}
use Rattle.heap_allocation.proofs.making.prepare.Goals as goal

pub make_room-requires : goal.make_room-requires
make_room-requires c = (c.requires, room-left c.args.bytes c.args.size c.requires c.judge_new.ensures c.in_ok-judge_new.was)

pub returns-in_err-judge_new : goal.returns-in_err-judge_new
returns-in_err-judge_new c =
    let p = err_from_is_err_and c.from_residual.result c.from_residual.ensures.1 in
    rw (p.1, p.2) (prepared_refused c.requires c.judge_new.ensures c.in_err-judge_new.was)

pub returns-then-size-ne0 : goal.returns-then-size-ne0
returns-then-size-ne0 c = prepared_room c.judge_new.ensures c.in_ok-judge_new.was c.make_room.ensures

pub returns-else-size-ne0 : goal.returns-else-size-ne0
returns-else-size-ne0 c = prepared_none c.requires c.judge_new.ensures c.in_ok-judge_new.was c.if-size-ne0.false
