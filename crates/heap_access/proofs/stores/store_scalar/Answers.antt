use mathlib.Core.Path.{refl}
use native.Mathlib.Omega.{arith}
use Rattle.heap_access.proofs.ObjectLaws.{located_here, object-at, store_lost}
use Rattle.heap_access.proofs.stores.store_scalar.Goals as goal

pub returns-in_err-i : goal.returns-in_err-i
returns-in_err-i c = store_lost c.locate.ensures c.in_err-i.was c.from_residual.ensures.1

pub overflow_mul-scalars : goal.overflow_mul-scalars
overflow_mul-scalars c = omega (arith, (located_here c.locate.ensures c.in_ok-i.was).within)

pub overflow_add-scalars : goal.overflow_add-scalars
overflow_add-scalars c = omega (arith, (located_here c.locate.ensures c.in_ok-i.was).within)

pub offset_bounds-scalars-i : goal.offset_bounds-scalars-i
offset_bounds-scalars-i c = omega (arith, (located_here c.locate.ensures c.in_ok-i.was).within)

pub bounds-scalars-i : goal.bounds-scalars-i
bounds-scalars-i c = omega (arith, (located_here c.locate.ensures c.in_ok-i.was).within)

pub returns : goal.returns
returns c = object-at c.locate.ensures c.in_ok-i.was refl
