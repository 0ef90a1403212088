-- A new iterator (document 01, "Slot and object").
use Rattle.std.specs.Prelude.{ℕ, ◌+◌, Result}
use Rattle.heap_slots.specs.Kinds.{ITERATOR}
use Rattle.heap_slots.specs.Scalars.{scalars_of_iterator}
use Rattle.heap_slots.specs.declared.Scalars.{Scalars}
use Rattle.heap.specs.declared.Refusal.{Refusal}
use Rattle.heap.specs.State.{State}
use Rattle.heap_allocation.specs.Making.{MadePlain, headerOf, with_next}

-- not ended, no item yet, from 0
abbrev pub unbegun : Scalars
unbegun = scalars_of_iterator record { ended = 0; keyed = 0; key = 0; stepped = 0; last = 0; position = 0; epoch = 0 }

-- from t to a, answering r: a new iterator
abbrev pub Begins : State → ℕ → ℕ → Result ℕ Refusal → State → Type 0
Begins t source keys r a = MadePlain t (with_next t unbegun) (headerOf ITERATOR source keys 0 0) (t.heap.weights.slot + t.heap.weights.iterator) r a
