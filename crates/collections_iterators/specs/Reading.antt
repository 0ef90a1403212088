-- An iterator that a word reaches, as the readings see it.
use Rattle.std.specs.Prelude.{ℕ, ◌≡◌, Result}
use Rattle.std.specs.Result.{result_map_both}
use Rattle.heap_slots.specs.Header.{header_at, scalars_at}
use Rattle.heap_slots.specs.Kinds.{ITERATOR}
use Rattle.heap_slots.specs.Scalars.{iterator_part}
use Rattle.heap.specs.declared.Refusal.{Refusal}
use Rattle.heap.specs.Locating.{located_in}
use Rattle.heap.specs.State.{State}
use Rattle.collections_iterators.specs.declared.IteratorRead.{IteratorRead}

-- the header and the scalars of the iterator in slot i
abbrev pub iterator_in : State → ℕ → IteratorRead
iterator_in t i = record { header = header_at t.slots i; scalars = iterator_part (scalars_at t.scalars i) }

-- those of the iterator that w reaches, or the refusal
pub record IteratorAt (t : State) (w : ℕ) (r : Result IteratorRead Refusal) : Type 0 where
  pub is : r ≡ result_map_both (iterator_in t) (λ q. q) (located_in t.slots t.heap.fresh w ITERATOR)
