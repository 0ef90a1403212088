use native.Mathlib.Omega.{arith}
use Rattle.heap.proofs.ReachLaws.{located_fits}
use Rattle.heap_access.proofs.ObjectLaws.{words-place}
use Rattle.heap_access.proofs.ReadingLaws.{item-words, words-fit}
use Rattle.heap_access.proofs.StoreCalls.{item-outside, item-over, item_lost, item_stored}
use Rattle.heap_access.proofs.stores.store_item.Goals as goal

pub returns-in_err-at : goal.returns-in_err-at
returns-in_err-at c = item_lost _ _ _ c.requires c.locate.ensures c.in_err-at.was c.from_residual.ensures.1

pub returns-then-not-zero_fits : goal.returns-then-not-zero_fits
returns-then-not-zero_fits c = item-over _ _ c.requires c.locate.ensures c.in_ok-at.was c.zero_fits.ensures.is c.if-not-zero_fits.true

pub read_header-h-requires : goal.read_header-h-requires
read_header-h-requires c = located_fits c.requires c.locate.ensures c.in_ok-at.was

pub overflow_add-cells : goal.overflow_add-cells
overflow_add-cells c = omega (arith, words-place (words-fit c.requires item-words) c.locate.ensures c.in_ok-at.was c.read_header-h.ensures c.if-i-h.true)

pub offset_bounds-cells-h : goal.offset_bounds-cells-h
offset_bounds-cells-h c = omega (arith, words-place (words-fit c.requires item-words) c.locate.ensures c.in_ok-at.was c.read_header-h.ensures c.if-i-h.true)

pub bounds-cells-h : goal.bounds-cells-h
bounds-cells-h c = omega (arith, words-place (words-fit c.requires item-words) c.locate.ensures c.in_ok-at.was c.read_header-h.ensures c.if-i-h.true)

pub returns-then-i-h : goal.returns-then-i-h
returns-then-i-h c = item_stored _ _ c.requires c.locate.ensures c.in_ok-at.was c.zero_fits.ensures.is c.if-not-zero_fits.false c.zero_fits.ensures.same c.read_header-h.ensures c.if-i-h.true

pub returns-else-i-h : goal.returns-else-i-h
returns-else-i-h c = item-outside _ _ c.requires c.locate.ensures c.in_ok-at.was c.zero_fits.ensures.is c.if-not-zero_fits.false c.zero_fits.ensures.same c.read_header-h.ensures c.if-i-h.false
