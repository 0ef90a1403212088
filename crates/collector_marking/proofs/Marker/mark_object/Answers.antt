use native.Mathlib.Omega.{arith}
use Rattle.collector_marking.proofs.Adding.{adds-none, adds_as}
use Rattle.collector_marking.proofs.Objects.{items-inside, entries-inside, frames-inside, array-inside, struct-inside, function-inside, kind_range, kids_cell, kids_array, kids_map, kids_struct, kids_function, kids_iterator, kids_coroutine, kids_none, no_kind, kids_held}
use Rattle.collector_marking.proofs.Marker.mark_object.Goals as goal

pub overflow_add-a : goal.overflow_add-a
overflow_add-a c = omega (arith, items-inside _ _ _ _ _ c.read_header-h.ensures c.requires.sound c.requires.present (array-inside _ _ _ _ _ c.read_header-h.ensures c.requires.sound c.requires.present c.in-6.is), c.requires.sound.cells_max)

pub slice_bounds-mark_items-end : goal.slice_bounds-mark_items-end
slice_bounds-mark_items-end c = omega (arith, items-inside _ _ _ _ _ c.read_header-h.ensures c.requires.sound c.requires.present (array-inside _ _ _ _ _ c.read_header-h.ensures c.requires.sound c.requires.present c.in-6.is))

pub overflow_add-a-in-8 : goal.overflow_add-a-in-8
overflow_add-a-in-8 c = omega (arith, items-inside _ _ _ _ _ c.read_header-h.ensures c.requires.sound c.requires.present (struct-inside _ _ _ _ _ c.read_header-h.ensures c.requires.sound c.requires.present c.in-8.is), c.requires.sound.cells_max)

pub slice_bounds-mark_struct-end : goal.slice_bounds-mark_struct-end
slice_bounds-mark_struct-end c = omega (arith, items-inside _ _ _ _ _ c.read_header-h.ensures c.requires.sound c.requires.present (struct-inside _ _ _ _ _ c.read_header-h.ensures c.requires.sound c.requires.present c.in-8.is))

pub overflow_add-a-in-9 : goal.overflow_add-a-in-9
overflow_add-a-in-9 c = omega (arith, items-inside _ _ _ _ _ c.read_header-h.ensures c.requires.sound c.requires.present (function-inside _ _ _ _ _ c.read_header-h.ensures c.requires.sound c.requires.present c.in-9.is), c.requires.sound.cells_max)

pub slice_bounds-mark_function-end : goal.slice_bounds-mark_function-end
slice_bounds-mark_function-end c = omega (arith, items-inside _ _ _ _ _ c.read_header-h.ensures c.requires.sound c.requires.present (function-inside _ _ _ _ _ c.read_header-h.ensures c.requires.sound c.requires.present c.in-9.is))

pub returns-in-3 : goal.returns-in-3
returns-in-3 c = adds_as (kids_cell _ _ _ _ _ c.read_header-h.ensures c.in-3.is) c.mark_typed.ensures

pub returns-in-6 : goal.returns-in-6
returns-in-6 c = adds_as (kids_array _ _ _ _ _ c.read_header-h.ensures c.in-6.is (array-inside _ _ _ _ _ c.read_header-h.ensures c.requires.sound c.requires.present c.in-6.is)) c.mark_items.ensures

pub returns-in-7 : goal.returns-in-7
returns-in-7 c = adds_as (kids_map _ _ _ _ _ c.read_header-h.ensures c.read_part-x.ensures c.in-7.is) c.mark_entries.ensures

pub returns-in-8 : goal.returns-in-8
returns-in-8 c = adds_as (kids_struct _ _ _ _ _ c.read_header-h.ensures c.in-8.is (struct-inside _ _ _ _ _ c.read_header-h.ensures c.requires.sound c.requires.present c.in-8.is)) c.mark_struct.ensures

pub returns-in-9 : goal.returns-in-9
returns-in-9 c = adds_as (kids_function _ _ _ _ _ c.read_header-h.ensures c.in-9.is (function-inside _ _ _ _ _ c.read_header-h.ensures c.requires.sound c.requires.present c.in-9.is)) c.mark_function.ensures

pub returns-in-10 : goal.returns-in-10
returns-in-10 c = adds_as (kids_iterator _ _ _ _ _ c.read_header-h.ensures c.read_part-x-in-10.ensures c.in-10.is) c.mark_iterator.ensures

pub returns-in-11 : goal.returns-in-11
returns-in-11 c = adds_as (kids_coroutine _ _ _ _ _ c.read_header-h.ensures c.read_part-x-in-11.ensures c.in-11.is) c.mark_coroutine.ensures

pub returns-in-4 : goal.returns-in-4
returns-in-4 c = adds_as (kids_held _ _ _ _ _ c.read_header-h.ensures (omega arith) (omega arith)) c.mark_word.ensures

pub returns-then-h-lt3 : goal.returns-then-h-lt3
returns-then-h-lt3 c = adds_as (kids_none _ _ _ _ _ c.read_header-h.ensures (kind_range _ _ _ _ _ c.read_header-h.ensures c.requires.sound c.requires.present).0 (omega arith)) adds-none

pub returns-else-h-lt6 : goal.returns-else-h-lt6
returns-else-h-lt6 c = absurd (no_kind _ (omega arith) (kind_range _ _ _ _ _ c.read_header-h.ensures c.requires.sound c.requires.present).1 (λ e. omega arith) (λ e. omega arith) (λ e. omega arith) (λ e. omega arith) (λ e. omega arith) (λ e. omega arith))

pub mark_entries-requires : goal.mark_entries-requires
mark_entries-requires c = entries-inside _ _ _ _ _ c.read_header-h.ensures c.requires.sound c.requires.present c.in-7.is

pub mark_coroutine-requires : goal.mark_coroutine-requires
mark_coroutine-requires c = frames-inside _ _ _ _ _ c.read_header-h.ensures c.requires.sound c.requires.present c.read_part-x-in-11.ensures c.in-11.is
