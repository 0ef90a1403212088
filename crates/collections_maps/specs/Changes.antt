-- Maps that entries are added to and removed from (document 01, "Entry, index, cursor").
use Rattle.std.specs.Prelude.{ℕ, ◌+◌, ◌-◌, ◌≤◌, ◌<◌, ◌≡◌, Bool, List, [], ◌∷◌, length}
use Rattle.heap_slots.specs.Header.{header_at, scalars_at}
use Rattle.heap_slots.specs.Kinds.{MAP}
use Rattle.heap_slots.specs.Scalars.{map_part}
use Rattle.heap_slots.specs.declared.Header.{Header}
use Rattle.heap_cells.specs.Regions.{region_of}
use Rattle.history.proofs.Lift.{Seen}
use Rattle.layout.specs.Layout.{Layout, is_traced}
use Rattle.map_store.specs.Store as Maps
use Rattle.map_store.specs.Map as Map
use Rattle.map_store.specs.View.{room_of, store_of}
use Rattle.map_store.specs.declared.MapStore.{MapStore}
use Rattle.model.specs.Calls.{Call, change, effect}
use Rattle.model.specs.Content.{Content}
use Rattle.model.specs.Model.{view_of}
use Rattle.model.specs.Replies.{nothing}
use Rattle.model.specs.Refusals.{target}
use Rattle.model.specs.Rules.{insert_room, map_room, on_map, remove_at_room}
use Rattle.model.specs.Terms.{a_map, charging, growth, spent, terms, uncharged}
use Rattle.heap.specs.Kinds.{content_of}
use Rattle.heap.specs.Kinds as Kinds
use Rattle.heap.specs.State.{State, model_of, more_of, raw_of, with_moved}
use Rattle.heap.specs.Promise.{Performs}
use Rattle.heap.proofs.ReachLaws.{Target}
use Rattle.heap.proofs.StepLaws.{OwnCells}
use Rattle.collections_growth.specs.Growth.{Lengthening, Longer}
use Rattle.collections_growth.specs.Words.{map_from}
use Rattle.collections_maps.specs.Written.{MapWritten}
use Rattle.collections_maps.specs.declared.changes.Insertion.{Insertion}
use Rattle.collections_maps.specs.declared.changes.Removal.{Removal}

-- ---- in the map's cells

-- the room of the map s over the cells c after an insertion, and after a removal
abbrev pub room_after : Bool → ℕ → MapStore → List ℕ → Maps.Room
room_after traced key s c = Maps.room_after_insert traced key (store_of s c) (room_of s)

abbrev pub room_without : MapStore → List ℕ → Maps.Room
room_without s c = Maps.room_after_remove (store_of s c) (room_of s)

abbrev pub room_without_key : Bool → ℕ → ℕ → MapStore → List ℕ → Maps.Room
room_without_key traced hash key s c = Maps.room_after_remove_key traced hash key (store_of s c) (room_of s)

pub record Inserting (c : List ℕ) (h : Header) (s : MapStore) (traced : Bool) (key : ℕ) : Type 0 where
  pub inside : h.start + h.size ≤ length c
  pub good : Map.Good s (region_of h c)
  pub room : Maps.cells_of (room_after traced key s (region_of h c)) ≤ h.size
  pub number : s.fresh < 4294967296

pub record Removing (c : List ℕ) (h : Header) (s : MapStore) : Type 0 where
  pub inside : h.start + h.size ≤ length c
  pub good : Map.Good s (region_of h c)
  pub room : Maps.cells_of (room_without s (region_of h c)) ≤ h.size

pub record RemovingKey (c : List ℕ) (h : Header) (s : MapStore) (traced : Bool) (hash key : ℕ) : Type 0 where
  pub inside : h.start + h.size ≤ length c
  pub good : Map.Good s (region_of h c)
  pub room : Maps.cells_of (room_without_key traced hash key s (region_of h c)) ≤ h.size

-- the rule was applied in the cells of h alone
pub record InRegion (rule : Maps.Store → Maps.Store) (room : Maps.Room) (h : Header) (s : MapStore) (c : List ℕ) (r : MapStore) (c' : List ℕ) : Type 0 where
  pub own : OwnCells c c' h.start h.size
  pub became : Map.Became rule room s (region_of h c) r (region_of h c')

-- ---- in the heap

pub record IsMap (t : State) (i : ℕ) : Type 0 where
  pub within : i < t.heap.fresh
  pub kind : (header_at t.slots i).kind ≡ MAP

-- the record and the cells of the map in slot i
abbrev pub map_at : State → ℕ → MapStore
map_at t i = map_from (header_at t.slots i) (map_part (scalars_at t.scalars i))

abbrev pub cells_at : State → ℕ → List ℕ
cells_at t i = region_of (header_at t.slots i) t.cells

pub record InsertAsks (t : State) (i key : ℕ) (r : Insertion) : Type 0 where
  pub map : r.map ≡ map_at t i
  pub traced : r.traced ≡ is_traced (map_part (scalars_at t.scalars i)).keys
  pub bytes : r.bytes ≡ Maps.bytes_of_growth t.heap.weights.entry r.traced key (store_of r.map (cells_at t i)) (room_of r.map)
  pub size : r.size ≡ Maps.cells_of (room_after r.traced key r.map (cells_at t i))
  pub grows : (header_at t.slots i).size ≤ r.size
  pub more : r.more ≡ r.size - (header_at t.slots i).size

pub record RemoveAsks (t : State) (i : ℕ) (r : Removal) : Type 0 where
  pub map : r.map ≡ map_at t i
  pub size : r.size ≡ Maps.cells_of (room_without r.map (cells_at t i))
  pub grows : (header_at t.slots i).size ≤ r.size
  pub more : r.more ≡ r.size - (header_at t.slots i).size

-- slot i holds the map s, and there are cells for the room that it is to have
pub record Ready (t : State) (i : ℕ) (s : MapStore) (room : Maps.Room) (size : ℕ) : Type 0 where
  pub slot : IsMap t i
  pub map : s ≡ map_at t i
  pub size_is : size ≡ Maps.cells_of room
  pub long : Lengthening t i size

-- from b to a: its region became longer, then the rule was applied, then its record was written
pub record Rewritten (b : State) (i size : ℕ) (s : MapStore) (rule : Maps.Store → Maps.Store) (room : Maps.Room) (a : State) : Type 0 where
  pub slots : List ℕ
  pub cells : List ℕ
  pub map : MapStore
  pub longer : Longer b i size (with_moved b a.heap slots a.directory cells)
  pub applied : InRegion rule room (header_at slots i) s cells map a.cells
  pub written : MapWritten slots b.scalars a.slots a.scalars i map

-- the call k is an insertion into the map in slot i: its refusals and charge, and what it makes of that map
pub record InsertRow (t : State) (w i hash key value : ℕ) (k : Call) : Type 0 where
  pub content : Layout → Content → Content
  pub room : Layout → Content → Maps.Room → Maps.Room
  pub effect_is : (l : Layout) → effect (view_of (model_of l t)) k ≡ change w (content l) (room l)
  pub terms_are : (l : Layout) → terms (model_of l t) k ≡ charging (target (view_of (model_of l t)) a_map w ∷ spent (model_of l t) w ∷ []) (growth (model_of l t) w key) nothing
  pub content_is : (l : Layout) → content l (content_of (raw_of t i) (more_of t i)) ≡ on_map (λ b. Maps.inserted b hash key value) (content_of (raw_of t i) (more_of t i))
  pub room_is : (l : Layout) → room l (content_of (raw_of t i) (more_of t i)) (Kinds.room_of (raw_of t i)) ≡ map_room (insert_room key) (content_of (raw_of t i) (more_of t i)) (Kinds.room_of (raw_of t i))

-- from b to a, showing o: what every insertion into the map in slot i does
pub record Inserts (b : State) (i hash key value : ℕ) (o : Seen) (a : State) : Type 0 where
  pub does : (w : ℕ) (k : Call) → Target b w i MAP → InsertRow b w i hash key value k → Performs k b o a

-- the call k is the removal of the entry at pos
pub record RemoveRow (t : State) (w i pos : ℕ) (k : Call) : Type 0 where
  pub content : Layout → Content → Content
  pub room : Layout → Content → Maps.Room → Maps.Room
  pub effect_is : (l : Layout) → effect (view_of (model_of l t)) k ≡ change w (content l) (room l)
  pub terms_are : (l : Layout) → terms (model_of l t) k ≡ uncharged (target (view_of (model_of l t)) a_map w ∷ []) nothing
  pub content_is : (l : Layout) → content l (content_of (raw_of t i) (more_of t i)) ≡ on_map (λ b. Maps.removed_at pos) (content_of (raw_of t i) (more_of t i))
  pub room_is : (l : Layout) → room l (content_of (raw_of t i) (more_of t i)) (Kinds.room_of (raw_of t i)) ≡ map_room remove_at_room (content_of (raw_of t i) (more_of t i)) (Kinds.room_of (raw_of t i))

pub record Removes (b : State) (i pos : ℕ) (o : Seen) (a : State) : Type 0 where
  pub does : (w : ℕ) (k : Call) → Target b w i MAP → RemoveRow b w i pos k → Performs k b o a
