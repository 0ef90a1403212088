-- A map's record in its slot, items.
use Rattle.std.specs.Prelude.{ℕ, ◌+◌, ◌≤◌, ◌<◌, ◌≡◌, List, [], length}
use Rattle.heap_slots.specs.declared.Header.{Header}
use Rattle.heap_slots.specs.declared.MapScalars.{MapScalars}
use Rattle.heap_slots.specs.Scalars.{scalars_of_map}
use Rattle.heap_cells.specs.Regions.{raw_of, region_of}
use Rattle.layout.specs.Layout.{Layout}
use Rattle.map_store.specs.Map as Maps
use Rattle.map_store.specs.declared.MapStore.{MapStore}
use Rattle.map_store.specs.declared.reading.Map.{Map}
use Rattle.model.specs.Model.{view_of}
use Rattle.model.specs.Rules.{item}
use Rattle.heap.specs.Kinds.{map_of}
use Rattle.heap.specs.State.{State, model_of}

-- the map's record is in the header and the scalars
abbrev pub map_from : Header → MapScalars → MapStore
map_from h x = map_of (raw_of h []) (scalars_of_map x)

-- what is known of the header and the scalars of a map over the cells c
pub record MapKnown (c : List ℕ) (h : Header) (x : MapScalars) : Type 0 where
  pub good : Maps.Good (map_from h x) (region_of h c)
  pub region : h.start + h.size ≤ length c
  pub epoch : x.epoch < 4294967296

-- the map that they make
pub record MapIn (c : List ℕ) (h : Header) (x : MapScalars) (m : Map) : Type 0 where
  pub store : m.store ≡ map_from h x
  pub cells : m.cells.now ≡ region_of h c

-- "push into, pop from and iteration over dynamic items dereference"
pub record ItemIs (t : State) (type w r : ℕ) : Type 0 where
  pub is : (l : Layout) → item (view_of (model_of l t)) type w ≡ r
