-- What marking asks and promises.
use Rattle.std.specs.Prelude.{◌≡◌, ◌≢◌, ℕ, ◌+◌, ◌*◌, ◌≤◌, ◌<◌, length, take, drop, replicate}
use mathlib.Core.List.{List, ◌++◌, Memᴰ}
use Rattle.heap_slots.specs.Header.{header_at, scalars_at}
use Rattle.heap_slots.specs.Limits.{CELLS_MAX, SLOT_WORDS, SLOTS_MAX}
use Rattle.heap_slots.specs.Kinds.{NONE}
use Rattle.heap_cells.specs.Regions.{raw_at}
use Rattle.heap.specs.Good.{SlotGood}
use Rattle.collector_marking.specs.Reach.{Marked, ones, after, queued, phase}
use Rattle.collector_marking.specs.Children.{hit}

-- a mark for each of the n slots, room in the order for each; k slots are marked
pub record MarksFit (s : List ℕ) (n : ℕ) (m o : List ℕ) (k : ℕ) : Type 0 where
  pub few : n ≤ SLOTS_MAX
  pub fits : n * SLOT_WORDS ≤ length s
  pub len : length m ≡ n
  pub room : n ≤ length o
  pub count : ones m ≡ k

-- The words ws were marked: the slots newly marked stand behind the first k of the order, which has r now; its other places are as they were.
pub record Marks (hit : ℕ → ℕ) (ws m o : List ℕ) (k : ℕ) (m' o' : List ℕ) (r : ℕ) : Type 0 where
  pub marks_length : length m' ≡ length m
  pub order_length : length o' ≡ length o
  pub count : ones m' ≡ r
  pub marks : m' ≡ after hit ws m
  pub order : take r o' ≡ take k o ++ queued hit ws m
  pub rest : drop r o' ≡ drop r o

-- a slot with an object
pub record Present (s : List ℕ) (n i : ℕ) : Type 0 where
  pub low : i < n
  pub held : (header_at s i).kind ≢ NONE

-- the marked slots stand in the order's first k places, and only slots with an object do
pub record Listing (s : List ℕ) (n : ℕ) (m o : List ℕ) (k : ℕ) : Type 0 where
  pub all : (i : ℕ) → Marked m i → Memᴰ i (take k o)
  pub each : (i : ℕ) → Memᴰ i (take k o) → Present s n i

-- no slot is marked, and the places that were taken hold 0
pub record Unmarked (m o : List ℕ) (k : ℕ) (m' o' : List ℕ) : Type 0 where
  pub marks : m' ≡ replicate (length m) 0
  pub order : o' ≡ replicate k 0 ++ drop k o

-- the marks m' and the order o', of which r places are taken, where k were: the other places are as they were
pub record Scanned (s : List ℕ) (n : ℕ) (o : List ℕ) (k : ℕ) (m' o' : List ℕ) (r : ℕ) : Type 0 where
  pub marks_length : length m' ≡ n
  pub order_length : length o' ≡ length o
  pub count : ones m' ≡ r
  pub more : k ≤ r
  pub rest : drop r o' ≡ drop r o
  pub listing : Listing s n m' o' r

-- a phase: the words ws are marked, and all that they reach
pub record Phased (s : List ℕ) (n : ℕ) (kids : ℕ → List ℕ) (ws m o : List ℕ) (k : ℕ) (m' o' : List ℕ) (r : ℕ) : Type 0 where
  pub marks : m' ≡ phase n (hit s n) kids ws m
  pub scanned : Scanned s n o k m' o' r

-- the first n slots, whose objects can be traced
pub record Sound (s x c : List ℕ) (n : ℕ) : Type 0 where
  pub slots_max : n ≤ SLOTS_MAX
  pub slots_fit : n * SLOT_WORDS ≤ length s
  pub scalars_fit : n * SLOT_WORDS ≤ length x
  pub cells_max : length c ≤ CELLS_MAX
  pub inside : (i : ℕ) → i < n → (header_at s i).start + (header_at s i).size ≤ length c
  pub each : (i : ℕ) → i < n → SlotGood (raw_at s c i) (scalars_at x i)
