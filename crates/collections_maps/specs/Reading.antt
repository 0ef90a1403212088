-- A map that a word reaches, as the readings see it.
use Rattle.std.specs.Prelude.{ℕ, ◌≡◌, Result, Ok, Err}
use Rattle.std.specs.Result.{result_map_both}
use Rattle.heap_slots.specs.Header.{header_at, scalars_at}
use Rattle.heap_slots.specs.Kinds.{MAP}
use Rattle.heap_slots.specs.Scalars.{map_part}
use Rattle.layout.specs.Layout.{is_traced}
use Rattle.heap.specs.declared.Refusal.{Refusal}
use Rattle.heap.specs.Locating.{Locates, located_in}
use Rattle.heap.specs.State.{State}
use Rattle.heap.proofs.ReachLaws.{Target}
use Rattle.collections_maps.specs.Changes.{cells_at, map_at}
use Rattle.collections_maps.specs.declared.MapRead.{MapRead}
use Rattle.collections_maps.specs.declared.readings.MapParts.{MapParts}

-- w reaches the map in a slot, and m is that map
pub record Found (t : State) (w : ℕ) (m : MapRead) : Type 0 where
  pub slot : ℕ
  pub target : Target t w slot MAP
  pub store : m.map.store ≡ map_at t slot
  pub cells : m.map.cells.now ≡ cells_at t slot
  pub traced : m.traced ≡ is_traced (map_part (scalars_at t.scalars slot)).keys

-- the map that w reaches, or the refusal
pub record MapAt (t : State) (w : ℕ) (r : Result MapRead Refusal) : Type 0 where
  pub found : (m : MapRead) → r ≡ Ok m → Found t w m
  pub refused : (q : Refusal) → r ≡ Err q → Locates t.slots t.heap.fresh w MAP (Err q)

-- ---- what its slot holds

-- the header and the scalars of the map in slot i
abbrev pub parts_in : State → ℕ → MapParts
parts_in t i = record { header = header_at t.slots i; scalars = map_part (scalars_at t.scalars i) }

-- those of the map that w reaches, or the refusal
pub record PartsOfMap (t : State) (w : ℕ) (r : Result MapParts Refusal) : Type 0 where
  pub is : r ≡ result_map_both (parts_in t) (λ q. q) (located_in t.slots t.heap.fresh w MAP)
