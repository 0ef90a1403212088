use mathlib.Core.Path.{sym}
use Rattle.std.proofs.lemmas.Result.{err_from_is_err_and}
use Rattle.heap.specs.Answers.{seen_by}
use Rattle.heap.proofs.ReachLaws.{located_at, located_fits}
use Rattle.collections_arrays.proofs.ArrayLaws.{array-here}
use Rattle.collections_arrays.proofs.PushLaws.{push-refused, room_appends, room-over, room_pushed}
use Rattle.collections_arrays.proofs.push.Goals as goal

pub read_header-h-requires : goal.read_header-h-requires
read_header-h-requires c = located_fits c.requires c.locate.ensures c.in_ok-i.was

pub push_at-requires : goal.push_at-requires
push_at-requires c = record { good = c.requires; array = located_at c.requires c.locate.ensures c.in_ok-i.was }

pub returns-then-h : goal.returns-then-h
returns-then-h c = c.push_at.ensures

pub returns-then-not-zero_fits : goal.returns-then-not-zero_fits
unfolding seen_by
returns-then-not-zero_fits c = room-over (array-here c.requires c.locate.ensures c.in_ok-i.was c.read_header-h.ensures) c.if-h.false (sym c.if-not-zero_fits.ensures.is)

pub append-requires : goal.append-requires
append-requires c = room_appends (array-here c.requires c.locate.ensures c.in_ok-i.was c.read_header-h.ensures) c.if-h.false

pub returns-in_err-i : goal.returns-in_err-i
unfolding seen_by
returns-in_err-i c =
    let p = err_from_is_err_and c.from_residual.result c.from_residual.ensures.1 in
    rw (p.1, p.2) (push-refused c.requires c.locate.ensures c.in_err-i.was)

pub returns : goal.returns
unfolding seen_by
returns c = room_pushed (array-here c.requires c.locate.ensures c.in_ok-i.was c.read_header-h.ensures) c.if-h.false (sym c.if-not-zero_fits.ensures.is, c.if-not-zero_fits.ensures.same) c.item-x.ensures c.append.ensures
