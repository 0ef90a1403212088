use native.Mathlib.Omega.{arith}
use Rattle.heap.proofs.ReachLaws.{located_at, located_fits, scalars_fit}
use Rattle.heap_access.proofs.FrameLaws.{frame-fits, frame-inside, frame-outside, frame_lost}
use Rattle.heap_access.proofs.readings.read_frame.Goals as goal

pub returns-in_err-at : goal.returns-in_err-at
returns-in_err-at c = frame_lost _ _ c.args.view.now.good c.locate.ensures c.in_err-at.was c.from_residual.ensures.1

pub read_part-x-requires : goal.read_part-x-requires
read_part-x-requires c = scalars_fit c.args.view.now.good (located_at c.args.view.now.good c.locate.ensures c.in_ok-at.was).reached

pub returns-then-x-i : goal.returns-then-x-i
returns-then-x-i c = frame-outside _ c.args.view.now.good c.locate.ensures c.in_ok-at.was c.read_part-x.ensures (omega (arith, c.if-x-i.true))

pub read_header-h-requires : goal.read_header-h-requires
read_header-h-requires c = located_fits c.args.view.now.good c.locate.ensures c.in_ok-at.was

pub overflow_add-h : goal.overflow_add-h
overflow_add-h c = omega (arith, frame-fits _ c.args.view.now.good c.locate.ensures c.in_ok-at.was c.read_part-x.ensures c.read_header-h.ensures c.if-x-i.false)

pub overflow_mul-i : goal.overflow_mul-i
overflow_mul-i c = omega (arith, frame-fits _ c.args.view.now.good c.locate.ensures c.in_ok-at.was c.read_part-x.ensures c.read_header-h.ensures c.if-x-i.false)

pub overflow_add-h-2 : goal.overflow_add-h-2
overflow_add-h-2 c = omega (arith, frame-fits _ c.args.view.now.good c.locate.ensures c.in_ok-at.was c.read_part-x.ensures c.read_header-h.ensures c.if-x-i.false)

pub frame_at-requires : goal.frame_at-requires
frame_at-requires c = (frame-fits _ c.args.view.now.good c.locate.ensures c.in_ok-at.was c.read_part-x.ensures c.read_header-h.ensures c.if-x-i.false).0

pub returns : goal.returns
returns c = frame-inside _ c.args.view.now.good c.locate.ensures c.in_ok-at.was c.read_part-x.ensures c.read_header-h.ensures c.if-x-i.false c.frame_at.ensures
