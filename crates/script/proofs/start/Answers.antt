use native.Mathlib.Omega.{arith}
use mathlib.Core.Path.{sym}
use lib.Seq.{length-take-le}
use Rattle.script.proofs.OpeningLaws.{short-heap, short_script, starts_open, starts-refused, true_roomy}
use Rattle.script.proofs.start.Goals as goal

pub returns-then-not-heap_room : goal.returns-then-not-heap_room
returns-then-not-heap_room c = short-heap _ c.heap_room.ensures c.if-not-heap_room.true

pub returns-then-not-script_room : goal.returns-then-not-script_room
returns-then-not-script_room c = short_script _ c.heap_room.ensures c.if-not-heap_room.false c.script_room.ensures c.if-not-script_room.true

pub slice_bounds-open-end-2 : goal.slice_bounds-open-end-2
slice_bounds-open-end-2 c = sym (length-take-le 2048 c.args.cells.now (omega (arith, (true_roomy _ _ c.heap_room.ensures c.if-not-heap_room.false c.script_room.ensures c.if-not-script_room.false).cells)))

pub returns-in_default : goal.returns-in_default
returns-in_default c = starts-refused (true_roomy _ _ c.heap_room.ensures c.if-not-heap_room.false c.script_room.ensures c.if-not-script_room.false) c.min.ensures c.open-opened.ensures c.in_default.is c.table-1.given c.marks-1.given c.order-1.given

pub returns : goal.returns
returns c = starts_open (true_roomy _ _ c.heap_room.ensures c.if-not-heap_room.false c.script_room.ensures c.if-not-script_room.false) c.min.ensures c.open-opened.ensures _ c.in-Ok.is c.table-1.given c.marks-1.given c.order-1.given
