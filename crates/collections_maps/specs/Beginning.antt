-- A new map (document 01, "Slot and object").
use Rattle.std.specs.Prelude.{ℕ}
use Rattle.heap_slots.specs.Scalars.{scalars_of_map}
use Rattle.heap_slots.specs.declared.Scalars.{Scalars}

-- no entry, nothing noted
abbrev pub empty_map : ℕ → ℕ → Scalars
empty_map keys values = scalars_of_map record { keys = keys; values = values; hashed = 0; known = 0; noted = 0; next = 0; epoch = 0; live = 0 }
