-- What holds of a heap and its lent buffers between calls. Opening establishes it, every call keeps it.
use Rattle.std.specs.Prelude.{ℕ, ◌+◌, ◌*◌, ◌/◌, ◌≤◌, ◌<◌, ◌≡◌, cond, List, eqb, get_or, length}
use Rattle.heap_slots.specs.Header.{header_at}
use Rattle.heap_slots.specs.FreeList.{Listed}
use Rattle.heap_slots.specs.Kinds.{COROUTINE, NONE}
use Rattle.heap_slots.specs.Limits.{BOX_HALF, HALF, HALF_END, SLOT_WORDS, SLOTS_MAX}
use Rattle.heap_slots.specs.Scalars.{coroutine_part, iterator_part, map_part}
use Rattle.heap_slots.specs.declared.Scalars.{Scalars}
use Rattle.heap_cells.specs.Moves.{string_cells}
use Rattle.heap_cells.specs.Regions.{RawSlot, Laid, sizes_of, sum_to}
use Rattle.layout.specs.Sections.{Tabled}
use Rattle.map_store.specs.Map as Map
use Rattle.model.specs.declared.Weights.{Weights}
use Rattle.heap.specs.Kinds.{LAST_ROW, by_row, map_of}
use Rattle.heap.specs.State.{State, raw_of, more_of}

-- What a row asks of a slot: its region is as long as the kind's contents say (document 01's column "cells").
abbrev pub Holds : ℕ → RawSlot → Scalars → Type 0
Holds k r x = cond (eqb k NONE) ((r.half < BOX_HALF) × (r.size ≡ 0)) (by_row k
    (r.size ≡ string_cells r.len)
    (r.size ≡ 0)
    (r.size ≡ 0)
    (r.size ≡ 0)
    (r.size ≡ 0)
    (r.len ≤ r.size)
    (Map.Good (map_of r x) r.cells × (r.size ≡ r.value * 5 + r.mode / 2) × ((map_part x).epoch < 4294967296))
    (r.len ≡ r.size)
    (r.len ≡ r.size)
    ((r.size ≡ 0) × ((iterator_part x).epoch < 4294967296))
    (r.size ≡ r.len + 4 * (coroutine_part x).frames))

pub record SlotGood (r : RawSlot) (x : Scalars) : Type 0 where
  pub half_low : HALF ≤ r.half
  pub half_high : r.half < HALF_END
  pub kind : r.kind ≤ LAST_ROW
  pub holds : Holds r.kind r x

-- "weights are given at opening, 1 to 4,096"
pub record WeightsGood (w : Weights) : Type 0 where
  pub slot : (1 ≤ w.slot) × (w.slot ≤ 4096)
  pub entry : (1 ≤ w.entry) × (w.entry ≤ 4096)
  pub iterator : (1 ≤ w.iterator) × (w.iterator ≤ 4096)
  pub coroutine : (1 ≤ w.coroutine) × (w.coroutine ≤ 4096)
  pub frame : (1 ≤ w.frame) × (w.frame ≤ 4096)

-- 1 for a slot with an object
abbrev pub filled : State → ℕ → ℕ
filled t i = cond (eqb (header_at t.slots i).kind NONE) 0 1

-- 1 for a coroutine's kind
abbrev pub coroutine_of : ℕ → ℕ
coroutine_of kind = cond (eqb kind COROUTINE) 1 0

-- the coroutines in the first n slots
abbrev pub coroutines_in : List ℕ → ℕ → ℕ
coroutines_in s n = sum_to (λ i. coroutine_of (header_at s i).kind) n

pub record Good (t : State) : Type 0 where
  pub some_slot : 1 ≤ t.heap.size
  pub slots_max : t.heap.size ≤ SLOTS_MAX
  pub slots_fit : t.heap.size * SLOT_WORDS ≤ length t.slots
  pub scalars_fit : t.heap.size * SLOT_WORDS ≤ length t.scalars
  pub list_fit : t.heap.size ≤ length t.list
  pub directory_fit : t.heap.size * 2 ≤ length t.directory
  pub weights : WeightsGood t.heap.weights
  pub fresh : t.heap.fresh ≤ t.heap.size
  pub each : (i : ℕ) → i < t.heap.fresh → SlotGood (raw_of t i) (more_of t i)
  -- regions, and the cells in use
  pub laid : Laid t.heap.fresh t.heap.top t.heap.entries t.slots t.directory t.cells
  pub taken : t.heap.taken ≡ sizes_of t.slots t.heap.fresh
  pub cells_fit : t.heap.taken ≤ length t.cells
  -- the free list, the objects present, and the coroutines among them
  pub listed : Listed t.slots t.list t.heap.fresh t.heap.free
  pub present : t.heap.present ≡ sum_to (filled t) t.heap.fresh
  pub coroutines : t.heap.coroutines ≡ coroutines_in t.slots t.heap.fresh
  pub room : t.heap.free + t.heap.present ≤ t.heap.fresh

-- At rest, between collections: marks and order, a place for each slot and as many again, hold zeros there.
pub record Rested (size : ℕ) (marks order : List ℕ) : Type 0 where
  pub marks_fit : size ≤ length marks
  pub order_fit : size * 2 ≤ length order
  pub marks_zero : (i : ℕ) → i < size → get_or marks i 0 ≡ 0
  pub order_zero : (i : ℕ) → i < size * 2 → get_or order i 0 ≡ 0

-- what the calls ask of the heap and of the memory lent with it, between them
pub record Ready (t : State) (marks order layout table : List ℕ) : Type 0 where
  pub good : Good t
  pub rested : Rested t.heap.size marks order
  pub tabled : Tabled layout table
