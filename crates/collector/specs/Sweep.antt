-- The sweep (document 01, "Kept set": "freed slots are taken from low to high; generation grows by 1, but 32,767 is retired. Used becomes the
-- kept weights").
use Rattle.std.specs.Prelude.{ℕ, suc, ◌+◌, ◌*◌, ◌%◌, ◌≤◌, ◌<◌, ◌≡◌, Bool, cond, ◌&&◌, not, List, ◌≢◌, eqb, length, get_or, set}
use Rattle.heap_slots.specs.Header.{emptied_header, header_at, set_header}
use Rattle.heap_slots.specs.Kinds.{ARRAY, COROUTINE, FUNCTION, ITERATOR, MAP, NONE, STRING, STRUCT}
use Rattle.heap_slots.specs.Limits.{CELLS_MAX, GENERATIONS, HALF, LAST_GENERATION, SLOT_WORDS, SLOTS_MAX}
use Rattle.heap_slots.specs.Scalars.{coroutine_part, scalars_at}
use Rattle.heap_slots.specs.FreeList.{Listed, free_list}
use Rattle.heap_slots.specs.declared.Header.{Header}
use Rattle.heap_cells.specs.Regions.{sum_to}
use Rattle.model.specs.Slots as Slots
use Rattle.model.specs.Slots.{one, free_list_after}
use Rattle.model.specs.declared.Weights.{Weights}
use Rattle.account.specs.Account.{after_sweep, saturated}
use Rattle.heap.specs.declared.Heap.{Heap}
use Rattle.heap.specs.Record.{with_swept}
use Rattle.heap.specs.State.{State, with_freed}
use Rattle.heap.specs.Good.{WeightsGood, coroutine_of}
use Rattle.collector.specs.declared.Tally.{Tally}

-- ---- one object's weight: document 01's column "bytes beyond the slot weight", read off the header; f: a coroutine's frames

unfoldable pub bytes_at : Weights → Header → ℕ → ℕ
bytes_at w h f =
    cond (eqb h.kind STRING) h.len
    (cond (eqb h.kind ARRAY) (8 * h.size)
    (cond (eqb h.kind MAP) (w.entry * h.value + 4 * h.mode)
    (cond (eqb h.kind STRUCT) (8 * h.len)
    (cond (eqb h.kind FUNCTION) (8 * h.len)
    (cond (eqb h.kind ITERATOR) w.iterator
    (cond (eqb h.kind COROUTINE) (w.coroutine + 8 * h.len + w.frame * f)
    0))))))

abbrev pub weight_at : Weights → Header → ℕ → ℕ
weight_at w h f = w.slot + bytes_at w h f

-- numbers small enough to be weighed
pub record Weighable (h : Header) (f : ℕ) : Type 0 where
  pub size : h.size ≤ CELLS_MAX
  pub string : h.kind ≡ STRING → h.len ≤ 8388608
  pub capacity : h.kind ≡ MAP → h.value ≤ CELLS_MAX
  pub index : h.kind ≡ MAP → h.mode ≤ 2097153
  pub fields : h.kind ≡ STRUCT → h.len ≤ CELLS_MAX
  pub captures : h.kind ≡ FUNCTION → h.len ≤ CELLS_MAX
  pub registers : h.kind ≡ COROUTINE → h.len ≤ CELLS_MAX
  pub frames : h.kind ≡ COROUTINE → f ≤ CELLS_MAX

-- a coroutine's frames
abbrev pub frames_at : List ℕ → ℕ → ℕ
frames_at x i = (coroutine_part (scalars_at x i)).frames

-- ---- one slot

abbrev pub next_generation : ℕ → ℕ
next_generation g = cond (eqb g LAST_GENERATION) g (suc g)

-- a slot without an object: the tag is the generation of its next one
abbrev pub empty_header : Header → ℕ → Header
empty_header h g = emptied_header h (HALF + g)

abbrev pub freed_header : Header → Header
freed_header h = empty_header h (next_generation (h.half % GENERATIONS))

-- the object in slot j is not marked
unfoldable pub freed_at : List ℕ → List ℕ → ℕ → Bool
freed_at m s j = not (eqb (header_at s j).kind NONE) && eqb (get_or m j 0) 0

-- and its slot may be used again
unfoldable pub returned_at : List ℕ → List ℕ → ℕ → Bool
returned_at m s j = freed_at m s j && not (eqb ((header_at s j).half % GENERATIONS) LAST_GENERATION)

unfoldable pub swept_header : List ℕ → List ℕ → ℕ → Header
swept_header m s j = cond (freed_at m s j) (freed_header (header_at s j)) (header_at s j)

-- 1 for a slot with an object
abbrev pub filled_in : List ℕ → ℕ → ℕ
filled_in s j = cond (eqb (header_at s j).kind NONE) 0 1

-- ---- the counts

abbrev pub kept_tally : Tally → ℕ → ℕ → ℕ → Tally
kept_tally t weight size coroutine = record { free = t.free; freed = t.freed; weight = t.weight + weight; taken = t.taken + size; present = t.present + 1; coroutines = t.coroutines + coroutine }

abbrev pub retired_tally : Tally → Tally
retired_tally t = record { free = t.free; freed = t.freed + 1; weight = t.weight; taken = t.taken; present = t.present; coroutines = t.coroutines }

abbrev pub returned_tally : Tally → Tally
returned_tally t = record { free = t.free + 1; freed = t.freed + 1; weight = t.weight; taken = t.taken; present = t.present; coroutines = t.coroutines }

-- what becomes of slot i, of the free list and of the counts
pub data Looked (s x l m : List ℕ) (i : ℕ) (w : Weights) (t : Tally) (s' l' : List ℕ) (t' : Tally) : Type 0 where
  vacant : (header_at s i).kind ≡ NONE → s' ≡ s → l' ≡ l → t' ≡ t → Looked s x l m i w t s' l' t'
  stays : (header_at s i).kind ≢ NONE → get_or m i 0 ≢ 0 → s' ≡ s → l' ≡ l → t' ≡ kept_tally t (weight_at w (header_at s i) (frames_at x i)) (header_at s i).size (coroutine_of (header_at s i).kind) → Looked s x l m i w t s' l' t'
  retires : (header_at s i).kind ≢ NONE → get_or m i 0 ≡ 0 → (header_at s i).half % GENERATIONS ≡ LAST_GENERATION → s' ≡ set_header s i (freed_header (header_at s i)) → l' ≡ l → t' ≡ retired_tally t → Looked s x l m i w t s' l' t'
  returns : (header_at s i).kind ≢ NONE → get_or m i 0 ≡ 0 → (header_at s i).half % GENERATIONS ≢ LAST_GENERATION → s' ≡ set_header s i (freed_header (header_at s i)) → l' ≡ set l t.free i → t' ≡ returned_tally t → Looked s x l m i w t s' l' t'

-- what looking at slot i asks
pub record Lookable (s x l m : List ℕ) (i : ℕ) (w : Weights) (t : Tally) : Type 0 where
  pub few : i < SLOTS_MAX
  pub slots_fit : i * SLOT_WORDS + SLOT_WORDS ≤ length s
  pub scalars_fit : i * SLOT_WORDS + SLOT_WORDS ≤ length x
  pub marks_fit : i < length m
  pub weighable : Weighable (header_at s i) (frames_at x i)
  pub weights : WeightsGood w
  pub room : (header_at s i).kind ≢ NONE → t.free < length l
  pub free : t.free ≤ SLOTS_MAX
  pub freed : t.freed ≤ i
  pub heavy : t.weight ≤ i * 8589934592
  pub cells : t.taken ≤ i * CELLS_MAX
  pub present : t.present ≤ i
  pub coroutines : t.coroutines ≤ i

-- ---- all slots

-- the first i of n slots are swept
pub record Swept (n : ℕ) (w : Weights) (s₀ x l₀ m : List ℕ) (free₀ i : ℕ) (s l : List ℕ) (t : Tally) : Type 0 where
  pub slots_length : length s ≡ length s₀
  pub list_length : length l ≡ length l₀
  pub done : (j : ℕ) → j < i → header_at s j ≡ swept_header m s₀ j
  pub left : (j : ℕ) → i ≤ j → header_at s j ≡ header_at s₀ j
  pub listed : Listed s l n t.free
  pub list : free_list l t.free ≡ free_list_after (returned_at m s₀) i (free_list l₀ free₀)
  pub freed : t.freed ≡ Slots.sum_to i (λ j. one (freed_at m s₀ j))
  pub weight : t.weight ≡ Slots.sum_to i (λ j. cond (eqb (swept_header m s₀ j).kind NONE) 0 (weight_at w (header_at s₀ j) (frames_at x j)))
  pub taken : t.taken ≡ sum_to (λ j. (swept_header m s₀ j).size) i
  pub present : t.present ≡ sum_to (λ j. cond (eqb (swept_header m s₀ j).kind NONE) 0 1) i
  pub coroutines : t.coroutines ≡ sum_to (λ j. coroutine_of (swept_header m s₀ j).kind) i
  pub room : (t.free + t.present) + sum_to (filled_in s₀) n ≤ n + sum_to (filled_in s₀) i
  pub few_freed : t.freed ≤ i
  pub heavy : t.weight ≤ i * 8589934592
  pub few_cells : t.taken ≤ i * CELLS_MAX
  pub few_present : t.present ≤ i
  pub few_coroutines : t.coroutines ≤ i

-- what the sweep asks
pub record Sweepable (n : ℕ) (w : Weights) (s x l m : List ℕ) (free : ℕ) : Type 0 where
  pub few : n ≤ SLOTS_MAX
  pub slots_fit : n * SLOT_WORDS ≤ length s
  pub scalars_fit : n * SLOT_WORDS ≤ length x
  pub list_fit : n ≤ length l
  pub marks_fit : length m ≡ n
  pub weights : WeightsGood w
  pub weighable : (j : ℕ) → j < n → Weighable (header_at s j) (frames_at x j)
  pub hollow : (j : ℕ) → j < n → (header_at s j).kind ≡ NONE → (header_at s j).size ≡ 0
  pub listed : Listed s l n free
  pub room : free + sum_to (filled_in s) n ≤ n

-- ---- the heap afterwards

-- the record: "used becomes the kept weights, since 0, threshold the larger of used and 262,144"; counts stop at 2^64 - 1
abbrev pub heap_after : Heap → Tally → Heap
heap_after h t = with_swept h (after_sweep h.account t.weight) t.free t.taken t.present t.coroutines (saturated (h.collections + 1)) (saturated (h.freed + t.freed))

abbrev pub state_after : State → List ℕ → List ℕ → List ℕ → Tally → State
state_after t s x l y = with_freed t (heap_after t.heap y) s x l
