-- The heap's record and its lent buffers, and the model that they hold.
use Rattle.std.specs.Prelude.{ℕ, ◌%◌, false, cond, List, leb, ltb, length}
use Rattle.std.proofs.Math.Option.{none}
use Rattle.heap_slots.specs.Header.{scalars_at}
use Rattle.heap_slots.specs.FreeList.{free_list}
use Rattle.heap_slots.specs.Limits.{BOX_HALF, GENERATIONS}
use Rattle.heap_slots.specs.declared.Scalars.{Scalars}
use Rattle.heap_cells.specs.Regions.{RawSlot, raw_at}
use Rattle.layout.specs.Layout.{Layout}
use Rattle.model.specs.Slots.{Slot}
use Rattle.model.specs.Model.{Model}
use Rattle.heap.specs.declared.Heap.{Heap}
use Rattle.heap.specs.Kinds.{object_of}
pub use Rattle.heap.specs.Record.{with_regions}

-- slots: headers; scalars: the words of maps, iterators and coroutines; list: the free list; directory: the regions' owners
pub record State : Type 0 where
  pub heap : Heap
  pub slots : List ℕ
  pub scalars : List ℕ
  pub list : List ℕ
  pub directory : List ℕ
  pub cells : List ℕ

-- the record with what the lent buffers hold: in a requires, and in an ensures before and after the call
abbrev pub state : Heap → List ℕ → List ℕ → List ℕ → List ℕ → List ℕ → State
state h s x f d c = record { heap = h; slots = s; scalars = x; list = f; directory = d; cells = c }

abbrev pub raw_of : State → ℕ → RawSlot
raw_of t i = raw_at t.slots t.cells i

abbrev pub more_of : State → ℕ → Scalars
more_of t i = scalars_at t.scalars i

-- a reference's upper half is HALF + tag; the tag is the box flag plus a 15-bit generation
unfoldable pub slot_from : RawSlot → Scalars → Slot
slot_from r x = record { gen = r.half % GENERATIONS; boxed = leb BOX_HALF r.half; object = object_of r x }

abbrev pub unused : Slot
unused = record { gen = 0; boxed = false; object = none }

unfoldable pub slot_of : State → ℕ → Slot
slot_of t i = cond (ltb i t.heap.fresh) (slot_from (raw_of t i) (more_of t i)) unused

unfoldable pub model_of : Layout → State → Model
model_of l t = record {
  table = record { size = t.heap.size; slots = slot_of t; fresh = t.heap.fresh; free = free_list t.list t.heap.free; freed = t.heap.freed };
  cells = length t.cells;
  layout = l;
  weights = t.heap.weights;
  account = t.heap.account;
  collections = t.heap.collections;
}

-- ---- states that differ in one thing

abbrev pub with_heap : State → Heap → State
with_heap t h = record { heap = h; slots = t.slots; scalars = t.scalars; list = t.list; directory = t.directory; cells = t.cells }

abbrev pub with_slots : State → List ℕ → State
with_slots t s = record { heap = t.heap; slots = s; scalars = t.scalars; list = t.list; directory = t.directory; cells = t.cells }

abbrev pub with_scalars : State → List ℕ → State
with_scalars t x = record { heap = t.heap; slots = t.slots; scalars = x; list = t.list; directory = t.directory; cells = t.cells }

abbrev pub with_cells : State → List ℕ → State
with_cells t c = record { heap = t.heap; slots = t.slots; scalars = t.scalars; list = t.list; directory = t.directory; cells = c }

-- one more object: the record, the headers and the directory
abbrev pub with_placed : State → Heap → List ℕ → List ℕ → State
with_placed t h s d = record { heap = h; slots = s; scalars = t.scalars; list = t.list; directory = d; cells = t.cells }

-- regions moved: all but scalars and free list
abbrev pub with_moved : State → Heap → List ℕ → List ℕ → List ℕ → State
with_moved t h s d c = record { heap = h; slots = s; scalars = t.scalars; list = t.list; directory = d; cells = c }

-- objects freed: all but the regions
abbrev pub with_freed : State → Heap → List ℕ → List ℕ → List ℕ → State
with_freed t h s x f = record { heap = h; slots = s; scalars = x; list = f; directory = t.directory; cells = t.cells }
