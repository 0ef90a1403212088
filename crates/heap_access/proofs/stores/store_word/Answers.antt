use native.Mathlib.Omega.{arith}
use Rattle.heap_access.proofs.ObjectLaws.{store_lost, word_kept, word_stored, words-header, words-place}
use Rattle.heap_access.proofs.stores.store_word.Goals as goal

pub returns-in_err-at : goal.returns-in_err-at
returns-in_err-at c = store_lost c.locate.ensures c.in_err-at.was c.from_residual.ensures.1

pub read_header-h-requires : goal.read_header-h-requires
read_header-h-requires c = words-header c.requires c.locate.ensures c.in_ok-at.was

pub returns-then-h-i : goal.returns-then-h-i
returns-then-h-i c = word_kept c.requires c.locate.ensures _ c.in_ok-at.was c.read_header-h.ensures c.if-h-i.true

pub overflow_add-cells : goal.overflow_add-cells
overflow_add-cells c = omega (arith, words-place c.requires c.locate.ensures c.in_ok-at.was c.read_header-h.ensures c.if-h-i.false)

pub offset_bounds-cells-h : goal.offset_bounds-cells-h
offset_bounds-cells-h c = omega (arith, words-place c.requires c.locate.ensures c.in_ok-at.was c.read_header-h.ensures c.if-h-i.false)

pub bounds-cells-h : goal.bounds-cells-h
bounds-cells-h c = omega (arith, words-place c.requires c.locate.ensures c.in_ok-at.was c.read_header-h.ensures c.if-h-i.false)

pub returns : goal.returns
returns c = word_stored c.requires c.locate.ensures _ c.in_ok-at.was c.read_header-h.ensures c.if-h-i.false
