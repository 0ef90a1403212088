-- A new object (document 01, "Slot and object"): whether it is refused, and where it goes.
use Rattle.std.specs.Prelude.{ℕ, ◌+◌, ◌-◌, ◌*◌, ◌≤◌, ◌<◌, ◌≡◌, cond, not, true, ◌||◌, List, [], ◌≢◌, eqb, leb, ltb, length, set, take, drop, Result, Ok, Err}
use Rattle.account.specs.Account.{charged, fits}
use Rattle.heap_slots.specs.Header.{set_header, with_half, with_place, with_region}
use Rattle.heap_slots.specs.Kinds.{BOX, NONE}
use Rattle.heap_slots.specs.Limits.{BOX_FLAG, CELLS_MAX, HALF, SLOT_WORDS, SLOTS_MAX, SPAN}
use Rattle.heap_slots.specs.FreeList.{Listed, taken_half, taken_slot}
use Rattle.heap_slots.specs.declared.Header.{Header}
use Rattle.heap_slots.specs.declared.Scalars.{Scalars}
use Rattle.heap_cells.specs.Raw.{RawSlot, raw_of}
use Rattle.layout.specs.Layout.{Layout}
use Rattle.heap.specs.declared.Heap.{Heap}
use Rattle.heap.specs.declared.Refusal.{Refusal}
use Rattle.heap.specs.declared.Refusal.TheVariants.{NoCells, NoSlot, OverBudget}
use Rattle.heap.specs.Answers.{accepted}
use Rattle.heap.specs.Record.{with_objects, with_regions}
use Rattle.heap.specs.State.{State, model_of, more_of, with_placed}
use Rattle.heap.specs.Good.{Good, SlotGood, coroutine_of}

-- 5, 6, 7, in this order: a charge of `bytes`, and `size` more of the `total` cells
unfoldable pub judged_new : Heap → ℕ → ℕ → ℕ → Result Unit Refusal
judged_new h total bytes size =
    cond (fits h.account bytes)
    (cond (not (eqb h.free 0) || ltb h.fresh h.size) (cond (leb (h.taken + size) total) accepted (Err NoCells)) (Err NoSlot))
    (Err OverBudget)

-- "the slot freed last is used first; otherwise the next never-used slot"
abbrev pub next_slot : State → ℕ
next_slot t = taken_slot t.list t.heap.fresh t.heap.free

-- "the flag for a box only"
abbrev pub flag_of : ℕ → ℕ
flag_of kind = cond (eqb kind BOX) BOX_FLAG 0

-- the upper half of the new object's reference, and the reference
abbrev pub new_half : State → ℕ → ℕ
new_half t kind = taken_half t.slots t.list t.heap.free + flag_of kind

abbrev pub new_word : State → ℕ → ℕ
new_word t kind = new_half t kind * SPAN + next_slot t

-- kind, value, mode, len and size are the caller's
abbrev pub new_header : State → Header → ℕ → ℕ → Header
new_header t h start entry = with_place h (new_half t h.kind) start entry

-- the slot that a header makes with these cells
abbrev pub new_raw : ℕ → Header → List ℕ → RawSlot
new_raw half h region = raw_of (with_half h half) region

-- the record with one object more
abbrev pub grown_heap : Heap → ℕ → ℕ → ℕ → ℕ → ℕ → Heap
grown_heap h kind bytes size top entries =
    with_objects h (charged h.account bytes) (cond (eqb h.free 0) (h.fresh + 1) h.fresh) (h.free - 1) top entries (h.taken + size) (h.present + 1) (h.coroutines + coroutine_of kind)

-- an object without cells: size, start and entry are 0
abbrev pub placed_plain : State → Header → ℕ → State
placed_plain t h bytes =
    with_placed t (grown_heap t.heap h.kind bytes 0 t.heap.top t.heap.entries) (set_header t.slots (next_slot t) (new_header t (with_region h 0 0 0) 0 0)) t.directory

-- an object whose region is the next at the top
abbrev pub placed_region : State → Header → ℕ → State
placed_region t h bytes =
    with_placed t (grown_heap t.heap h.kind bytes h.size (t.heap.top + h.size) (t.heap.entries + 1)) (set_header t.slots (next_slot t) (new_header t h t.heap.top t.heap.entries))
    (set t.directory t.heap.entries (next_slot t))

-- the cells that its region will have
abbrev pub next_region : State → ℕ → List ℕ
next_region t size = take size (drop t.heap.top t.cells)

-- a header is an object's, with these cells and scalars: its slot is as `Good` has it, whatever the tag
pub record Object (h : Header) (region : List ℕ) (x : Scalars) : Type 0 where
  pub some_kind : h.kind ≢ NONE
  pub fit : SlotGood (new_raw HALF h region) x

-- with the scalars of the next slot, and no cells
abbrev pub PlainObject : State → Header → Type 0
PlainObject t h = Object (with_region h 0 0 0) [] (more_of t (next_slot t))

-- with the scalars of the next slot, and the cells at the top
abbrev pub RegionObject : State → Header → Type 0
RegionObject t h = Object h (next_region t h.size) (more_of t (next_slot t))

-- the object is placed under the reference w; what holds between calls holds again
pub record Places (next : State) (w : ℕ) (r : Result ℕ Refusal) (a : State) : Type 0 where
  pub after : a ≡ next
  pub answer : r ≡ Ok w
  pub good : Good a

abbrev pub PlacesPlain : State → Header → ℕ → Result ℕ Refusal → State → Type 0
PlacesPlain t h bytes r a = Places (placed_plain t h bytes) (new_word t h.kind) r a

abbrev pub PlacesRegion : State → Header → ℕ → Result ℕ Refusal → State → Type 0
PlacesRegion t h bytes r a = Places (placed_region t h bytes) (new_word t h.kind) r a

-- from b to a no object has changed, and there is room for a region of `size` cells at the top
pub record Roomy (b a : State) (size : ℕ) : Type 0 where
  pub heap : a.heap ≡ with_regions b.heap b.heap.account a.heap.top a.heap.entries b.heap.taken
  pub scalars : a.scalars ≡ b.scalars
  pub list : a.list ≡ b.list
  pub cells_length : length a.cells ≡ length b.cells
  pub good : Good a
  pub model : (l : Layout) → model_of l a ≡ model_of l b
  pub region : a.heap.top + size ≤ length a.cells
  pub entry : a.heap.entries < a.heap.size * 2

-- what placing a header in the next slot needs
pub record Seatable (h : Heap) (s list : List ℕ) (bytes size : ℕ) : Type 0 where
  pub listed : Listed s list h.fresh h.free
  pub slots_max : h.size ≤ SLOTS_MAX
  pub slots_fit : h.size * SLOT_WORDS ≤ length s
  pub list_fit : h.free ≤ length list
  pub fresh : h.fresh ≤ h.size
  pub left : h.free ≡ 0 → h.fresh < h.size
  pub present : h.present ≤ SLOTS_MAX
  pub coroutines : h.coroutines ≤ SLOTS_MAX
  pub cells_max : h.taken + size ≤ CELLS_MAX
  pub in_budget : fits h.account bytes ≡ true

-- the header is placed, and the record has one object more; its region is the caller's care
pub record Seats (h : Heap) (s list : List ℕ) (hd : Header) (bytes : ℕ) (r : Result ℕ Refusal) (h' : Heap) (s' : List ℕ) : Type 0 where
  pub heap : h' ≡ grown_heap h hd.kind bytes hd.size h.top h.entries
  pub slots : s' ≡ set_header s (taken_slot list h.fresh h.free) (with_half hd (taken_half s list h.free + flag_of hd.kind))
  pub answer : r ≡ Ok ((taken_half s list h.free + flag_of hd.kind) * SPAN + taken_slot list h.fresh h.free)
