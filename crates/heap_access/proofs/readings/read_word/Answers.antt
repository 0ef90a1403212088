use native.Mathlib.Omega.{arith}
use Rattle.heap_access.proofs.ObjectLaws.{word_inside, word_lost, word_outside, word_place}
use Rattle.heap_access.proofs.readings.read_word.Goals as goal

pub returns-in_err-h : goal.returns-in_err-h
returns-in_err-h c = word_lost c.requires c.read_header_of.ensures _ c.in_err-h.was c.from_residual.ensures.1

pub overflow_add-result : goal.overflow_add-result
overflow_add-result c = omega (arith, word_place c.requires c.read_header_of.ensures c.in_ok-h.was c.if-i-h.true)

pub offset_bounds-view-h : goal.offset_bounds-view-h
offset_bounds-view-h c = omega (arith, word_place c.requires c.read_header_of.ensures c.in_ok-h.was c.if-i-h.true)

pub bounds-view-h : goal.bounds-view-h
bounds-view-h c = omega (arith, word_place c.requires c.read_header_of.ensures c.in_ok-h.was c.if-i-h.true)

pub returns-then-i-h : goal.returns-then-i-h
returns-then-i-h c = word_inside c.requires c.read_header_of.ensures c.in_ok-h.was c.if-i-h.true

pub returns-else-i-h : goal.returns-else-i-h
returns-else-i-h c = word_outside c.requires c.read_header_of.ensures c.in_ok-h.was c.if-i-h.false
