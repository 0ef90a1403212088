-- An iterator's step (document 01, "Entry, index, cursor"; "push into, pop from and iteration over dynamic items dereference").
use Rattle.std.specs.Prelude.{ℕ, ◌+◌, ◌≤◌, ◌<◌, ◌≡◌, length, take}
use Rattle.std.proofs.Math.Option.{some}
use Rattle.heap_slots.specs.declared.Header.{Header}
use Rattle.heap_slots.specs.Limits.{CELLS_MAX}
use Rattle.heap_slots.specs.Scalars.{scalars_of_iterator}
use Rattle.heap_slots.specs.declared.IteratorScalars.{IteratorScalars}
use Rattle.heap_slots.specs.declared.MapScalars.{MapScalars}
use Rattle.heap_cells.specs.Regions.{region_of}
use Rattle.layout.specs.Layout.{Layout}
use Rattle.map_store.specs.Store as Maps
use Rattle.map_store.specs.View.{position, store_of}
use Rattle.model.specs.Content as Content
use Rattle.model.specs.Model.{view_of}
use Rattle.model.specs.Rules.{visit_array, visit_map, visit_next}
use Rattle.model.specs.Rules as Rules
use Rattle.heap.specs.Kinds.{cursor_of, perhaps, yes}
use Rattle.heap.specs.State.{State, model_of}
use Rattle.collections_iterators.specs.declared.Visit.{Visit}
use Rattle.collections_growth.specs.Words.{map_from}

-- the iterator with these scalars
abbrev pub iterator_of : ℕ → ℕ → IteratorScalars → Content.Iterator
iterator_of source keys x = record { source = source; key_type = keys; ended = yes x.ended; key = perhaps x.keyed x.key; cursor = cursor_of (scalars_of_iterator x) }

-- the item or the end, and the iterator afterwards
abbrev pub visit_is : ℕ → ℕ → Visit → Rules.Visit
visit_is source keys r = record { item = position r.item; next = iterator_of source keys r.next }

-- the array and the map in a slot
abbrev pub array_in : State → Header → Content.Array
array_in t h = record { type = h.mode; items = take h.len (region_of h t.cells) }

abbrev pub map_in : State → Header → MapScalars → Content.Map
map_in t h y = record { key_type = y.keys; value_type = y.values; store = store_of (map_from h y) (region_of h t.cells) }

pub record Ends (x : IteratorScalars) (r : Visit) : Type 0 where
  pub is : (source keys : ℕ) → Rules.ended (iterator_of source keys x) ≡ visit_is source keys r
  pub epoch : r.next.epoch ≡ x.epoch

-- the scalars after a step that moved the cursor to c, onto an item with this key
pub record Moves (c : Maps.Cursor) (key : ℕ) (x : IteratorScalars) : Type 0 where
  pub is : (source keys w : ℕ) (i : Content.Iterator) → i.source ≡ source → i.key_type ≡ keys → Rules.moved i w key c ≡ record { item = some w; next = iterator_of source keys x }
  pub epoch : x.epoch < 4294967296

pub record VisitsArray (t : State) (h : Header) (x : IteratorScalars) (r : Visit) : Type 0 where
  pub is : (l : Layout) (source keys : ℕ) → visit_array (view_of (model_of l t)) (iterator_of source keys x) (array_in t h) ≡ visit_is source keys r
  pub epoch : r.next.epoch < 4294967296

pub record VisitsMap (t : State) (h : Header) (y : MapScalars) (x : IteratorScalars) (r : Visit) : Type 0 where
  pub is : (l : Layout) (source keys : ℕ) → visit_map (view_of (model_of l t)) (iterator_of source keys x) (map_in t h y) ≡ visit_is source keys r
  pub epoch : r.next.epoch < 4294967296

pub record Visits (t : State) (source : ℕ) (x : IteratorScalars) (r : Visit) : Type 0 where
  pub is : (l : Layout) (keys : ℕ) → visit_next (view_of (model_of l t)) (iterator_of source keys x) ≡ visit_is source keys r
  pub epoch : r.next.epoch < 4294967296

-- what the header of an array is known to be
pub record ArrayKnown (t : State) (h : Header) : Type 0 where
  pub items : h.len ≤ h.size
  pub region : h.start + h.size ≤ length t.cells
  pub cells : length t.cells ≤ CELLS_MAX
