use mathlib.Core.Path.{refl}
use native.Mathlib.Omega.{arith}
use Rattle.heap.proofs.ReachLaws.{located_at, scalars_fit}
use Rattle.heap_access.proofs.ObjectLaws.{object-at, object_lost}
use Rattle.heap_access.proofs.readings.read_scalar.Goals as goal

pub returns-in_err-i : goal.returns-in_err-i
returns-in_err-i c = object_lost c.locate.ensures c.in_err-i.was c.from_residual.ensures.1

pub overflow_mul-result : goal.overflow_mul-result
overflow_mul-result c = omega (arith, scalars_fit c.args.view.now.good (located_at c.args.view.now.good c.locate.ensures c.in_ok-i.was).reached)

pub overflow_add-result : goal.overflow_add-result
overflow_add-result c = omega (arith, scalars_fit c.args.view.now.good (located_at c.args.view.now.good c.locate.ensures c.in_ok-i.was).reached)

pub offset_bounds-view-i : goal.offset_bounds-view-i
offset_bounds-view-i c = omega (arith, scalars_fit c.args.view.now.good (located_at c.args.view.now.good c.locate.ensures c.in_ok-i.was).reached)

pub bounds-view-i : goal.bounds-view-i
bounds-view-i c = omega (arith, scalars_fit c.args.view.now.good (located_at c.args.view.now.good c.locate.ensures c.in_ok-i.was).reached)

pub returns : goal.returns
returns c = object-at c.locate.ensures c.in_ok-i.was refl
