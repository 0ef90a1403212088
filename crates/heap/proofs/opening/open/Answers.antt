use native.Mathlib.Omega.{arith}
use mathlib.Core.Path.{◌∙◌, refl, sym}
use Rattle.std.proofs.lemmas.Result.{err_from_is_err_and}
use Rattle.std.proofs.Common.{length}
use Rattle.std.proofs.lemmas.List.{length-take-le}
use Rattle.model.specs.Opening.{sizes_fit}
use Rattle.heap.specs.Opens.{beside, opening_of}
use Rattle.heap.proofs.OpenLaws.{filled, opens-accepted, opens-refused, opens-unread, room-short, room_so, sizes_short, slots-below}
use Rattle.heap.proofs.opening.open.Goals as goal

pub returns-then-not-sizes_fit : goal.returns-then-not-sizes_fit
unfolding sizes_fit
returns-then-not-sizes_fit c = opens-refused (sizes_short _ _ _ (sym c.sizes_fit.ensures ∙ c.if-not-sizes_fit.true))

pub has_room-requires : goal.has_room-requires
has_room-requires c = slots-below _ (sym c.sizes_fit.ensures ∙ c.if-not-sizes_fit.false)

pub returns-then-not-has_room : goal.returns-then-not-has_room
returns-then-not-has_room c = opens-refused (room-short _ _ _ (sym c.has_room.ensures ∙ c.if-not-has_room.true))

pub returns-in_err-read_layout : goal.returns-in_err-read_layout
returns-in_err-read_layout c =
    let p = err_from_is_err_and c.from_residual.result c.from_residual.ensures.1 in
    rw (p.1, p.2) (opens-unread c.read_layout.ensures (rw c.in_err-read_layout.was))

pub slice_bounds-fill-end : goal.slice_bounds-fill-end
slice_bounds-fill-end c = (room_so _ _ _ _ _ _ _ (sym c.has_room.ensures ∙ c.if-not-has_room.false)).marks_fit

pub slice_bounds-fill-end-2 : goal.slice_bounds-fill-end-2
slice_bounds-fill-end-2 c = sym (length-take-le _ _ (room_so _ _ _ _ _ _ _ (sym c.has_room.ensures ∙ c.if-not-has_room.false)).marks_fit)

pub overflow_mul-n : goal.overflow_mul-n
overflow_mul-n c = omega (arith, slots-below _ (sym c.sizes_fit.ensures ∙ c.if-not-sizes_fit.false))

pub slice_bounds-fill-end-3 : goal.slice_bounds-fill-end-3
slice_bounds-fill-end-3 c = (room_so _ _ _ _ _ _ _ (sym c.has_room.ensures ∙ c.if-not-has_room.false)).order_fit

pub slice_bounds-fill-end-4 : goal.slice_bounds-fill-end-4
slice_bounds-fill-end-4 c = sym (length-take-le _ _ (room_so _ _ _ _ _ _ _ (sym c.has_room.ensures ∙ c.if-not-has_room.false)).order_fit)

pub returns : goal.returns
unfolding sizes_fit
returns c =
    let r = room_so _ _ _ _ _ _ _ (sym c.has_room.ensures ∙ c.if-not-has_room.false) in
    rw c.new_heap.ensures
    (opens-accepted (opening_of c.args.size (length c.args.cells.now) c.args.limit c.args.weights c.args.layout.now) _ _ _ _ _ (beside c.args.table.now c.args.marks.now c.args.order.now)
    (sym c.sizes_fit.ensures ∙ c.if-not-sizes_fit.false) refl (sym c.has_room.ensures ∙ c.if-not-has_room.false) c.read_layout.ensures (rw c.in_ok-read_layout.was)
    (filled _ _ _ r.marks_fit (c.fill.ensures.after (λ y e. e))) (filled _ _ _ r.order_fit (c.fill-2.ensures.after (λ y e. e))))
