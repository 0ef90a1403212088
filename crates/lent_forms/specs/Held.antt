-- The state that a small heap holds.
use Rattle.std.specs.Prelude.{Result, Ok, Err}
use Rattle.heap.specs.State.{State, state}
use Rattle.heap.specs.Good.{Good}
use Rattle.heap.specs.declared.Refusal.{Refusal}
use Rattle.lent_forms.specs.declared.Small.{Small}

abbrev pub held_in : Small → State
held_in s = state s.heap s.slots s.scalars s.list s.directory s.cells

-- an opening: what was opened is good
abbrev pub Opened : Result Small Refusal → Type 0
Opened (Ok s) = Good (held_in s)
Opened (Err q) = Unit
