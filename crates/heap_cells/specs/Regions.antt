-- Regions of the cells (document 01, "Slot and object": "contents need not stay in one place").
use Rattle.std.specs.Prelude.{ℕ, zero, suc, ◌+◌, ◌*◌, ◌≤◌, ◌<◌, ◌≡◌, ◌⊎◌, cond, List, ltb, length, get_or, take}
use Rattle.heap_slots.specs.Header.{header_at, with_region}
use Rattle.heap_slots.specs.declared.Header.{Header}
use Rattle.heap_slots.specs.Limits.{CELLS_MAX, DIRECTORY_MAX, SLOT_WORDS, SLOTS_MAX}
use Rattle.heap_cells.specs.declared.Top.{Top}
pub use Rattle.heap_cells.specs.Raw.{RawSlot, raw_of, region_of}
unfoldable pub use Rattle.heap_cells.specs.Raw.{raw_at}

-- f 0 + .. + f (n - 1)
unfoldable pub sum_to : (ℕ → ℕ) → ℕ → ℕ
sum_to f zero = 0
sum_to f (suc n) = sum_to f n + f n

-- the cells of the first n slots' regions
abbrev pub sizes_of : List ℕ → ℕ → ℕ
sizes_of s n = sum_to (λ j. (header_at s j).size) n

-- Between calls: the regions of the first n slots lie below top, in the order of the directory's first m entries. A region is listed at its
-- own entry; an entry whose owner's region is listed elsewhere, or that has none, is dead.
pub record Laid (n top m : ℕ) (s dir c : List ℕ) : Type 0 where
  pub slots_max : n ≤ SLOTS_MAX
  pub slots_fit : n * SLOT_WORDS ≤ length s
  pub cells_max : length c ≤ CELLS_MAX
  pub dir_fits : m ≤ length dir
  pub dir_max : m ≤ DIRECTORY_MAX
  pub top_fits : top ≤ length c
  pub inside : (j : ℕ) → j < n → (header_at s j).start + (header_at s j).size ≤ length c
  pub below : (j : ℕ) → j < n → ((header_at s j).size ≡ 0 → ⊥) → (header_at s j).start + (header_at s j).size ≤ top
  pub listed : (j : ℕ) → j < n → ((header_at s j).size ≡ 0 → ⊥) → ((header_at s j).entry < m) × (get_or dir (header_at s j).entry 0 ≡ j)
  pub ordered : (i j : ℕ) → i < n → j < n → ((header_at s i).size ≡ 0 → ⊥) → ((header_at s j).size ≡ 0 → ⊥) → (header_at s i).entry < (header_at s j).entry →
      (header_at s i).start + (header_at s i).size ≤ (header_at s j).start

-- ---- the directory's entries

-- what a lookup at the entry k needs: it is one of the directory's, and regions are listed at their own entries
pub record Owners (n k : ℕ) (s dir : List ℕ) : Type 0 where
  pub slots_max : n ≤ SLOTS_MAX
  pub slots_fit : n * SLOT_WORDS ≤ length s
  pub within : k < length dir
  pub listed : (j : ℕ) → j < n → ((header_at s j).size ≡ 0 → ⊥) → get_or dir (header_at s j).entry 0 ≡ j

-- the region of slot i, with header h, is listed there
pub record Owned (n k : ℕ) (s dir : List ℕ) (i : ℕ) (h : Header) : Type 0 where
  pub slot : i ≡ get_or dir k 0
  pub within : i < n
  pub header : h ≡ header_at s i
  pub some : h.size ≡ 0 → ⊥
  pub entry : h.entry ≡ k

-- no region is listed there
abbrev pub Dead : ℕ → ℕ → List ℕ → Type 0
Dead n k s = (j : ℕ) → j < n → ((header_at s j).size ≡ 0 → ⊥) → (header_at s j).entry ≡ k → ⊥

-- ---- compaction

-- the size of a slot's region, where it is listed among the first m entries; 1 for such a slot with cells
abbrev pub packed_size : ℕ → List ℕ → ℕ → ℕ
packed_size m s j = cond (ltb (header_at s j).entry m) (header_at s j).size 0

abbrev pub packed_one : ℕ → List ℕ → ℕ → ℕ
packed_one m s j = cond (ltb (header_at s j).entry m) (cond (ltb 0 (header_at s j).size) 1 0) 0

-- a region that compaction has packed below `to`, or that it has not reached
pub record Sited (h : Header) (dir : List ℕ) (last k to m j : ℕ) : Type 0 where
  pub listed : get_or dir h.entry 0 ≡ j
  pub side : ((h.entry < m) × (h.start + h.size ≤ to)) ⊎ ((k ≤ h.entry) × (h.entry < last) × (to ≤ h.start))

-- compaction at the entry k of `last`: m entries and `to` cells are packed
pub record Packing (n last k to m : ℕ) (s dir c : List ℕ) : Type 0 where
  pub slots_max : n ≤ SLOTS_MAX
  pub slots_fit : n * SLOT_WORDS ≤ length s
  pub cells_max : length c ≤ CELLS_MAX
  pub dir_fits : last ≤ length dir
  pub dir_max : last ≤ DIRECTORY_MAX
  pub m_k : m ≤ k
  pub k_last : k ≤ last
  pub to_fits : to ≤ length c
  pub inside : (j : ℕ) → j < n → (header_at s j).start + (header_at s j).size ≤ length c
  pub sited : (j : ℕ) → j < n → ((header_at s j).size ≡ 0 → ⊥) → Sited (header_at s j) dir last k to m j
  pub ordered : (i j : ℕ) → i < n → j < n → ((header_at s i).size ≡ 0 → ⊥) → ((header_at s j).size ≡ 0 → ⊥) → (header_at s i).entry < (header_at s j).entry →
      (header_at s i).start + (header_at s i).size ≤ (header_at s j).start
  pub total : to ≡ sum_to (packed_size m s) n
  pub counted : m ≡ sum_to (packed_one m s) n

-- what no move of a region changes: every slot but for its region's place, and the lengths
pub record Kept (n : ℕ) (s dir c s' dir' c' : List ℕ) : Type 0 where
  pub same : (j : ℕ) → j < n → raw_at s' c' j ≡ raw_at s c j
  pub slots_len : length s' ≡ length s
  pub dir_len : length dir' ≡ length dir
  pub cells_len : length c' ≡ length c

pub record Packed (n last k to m : ℕ) (s dir c s' dir' c' : List ℕ) : Type 0 where
  pub still : Packing n last k to m s' dir' c'
  pub kept : Kept n s dir c s' dir' c'

-- tight: no dead cell is left below the top
pub record Compacted (n : ℕ) (t : Top) (s dir c s' dir' c' : List ℕ) : Type 0 where
  pub laid : Laid n t.cells t.entries s' dir' c'
  pub tight : t.cells ≡ sizes_of s n
  pub few : t.entries ≤ n
  pub kept : Kept n s dir c s' dir' c'

-- room for a region of `size` cells at the top, and for its entry below `limit`
pub record Reserved (n limit size : ℕ) (t : Top) (s dir c s' dir' c' : List ℕ) : Type 0 where
  pub laid : Laid n t.cells t.entries s' dir' c'
  pub room : t.cells + size ≤ length c'
  pub entry : t.entries < limit
  pub kept : Kept n s dir c s' dir' c'

-- the region of slot i has `size` cells; its first ones are those it had, the others are free of meaning
pub record Grown (n i size : ℕ) (t : Top) (s dir c s' dir' c' : List ℕ) : Type 0 where
  pub laid : Laid n t.cells t.entries s' dir' c'
  pub header : header_at s' i ≡ with_region (header_at s i) size (header_at s' i).start (header_at s' i).entry
  pub front : take (header_at s i).size (region_of (header_at s' i) c') ≡ region_of (header_at s i) c
  pub others : (j : ℕ) → j < n → (j ≡ i → ⊥) → raw_at s' c' j ≡ raw_at s c j
  pub slots_len : length s' ≡ length s
  pub dir_len : length dir' ≡ length dir
  pub cells_len : length c' ≡ length c

-- ---- growth

-- the region of slot i is to have `size` cells, not fewer than it has
pub record Growing (n i size : ℕ) (t : Top) (s dir c : List ℕ) : Type 0 where
  pub laid : Laid n t.cells t.entries s dir c
  pub within : i < n
  pub more : (header_at s i).size ≤ size

-- the regions listed from entry `first` on and before entry k start `by` cells later
pub record Shifted (n first k by : ℕ) (s s' : List ℕ) : Type 0 where
  pub len : length s' ≡ length s
  pub moved : (j : ℕ) → j < n → ((header_at s j).size ≡ 0 → ⊥) → first ≤ (header_at s j).entry → (header_at s j).entry < k →
      header_at s' j ≡ with_region (header_at s j) (header_at s j).size ((header_at s j).start + by) (header_at s j).entry
  pub stayed : (j : ℕ) → j < n → ((header_at s j).size ≡ 0) ⊎ (((header_at s j).entry < first) ⊎ (k ≤ (header_at s j).entry)) → header_at s' j ≡ header_at s j

-- what that needs: regions are listed at their own entries, and the places fit
pub record Shifting (n k last by : ℕ) (s dir : List ℕ) : Type 0 where
  pub slots_max : n ≤ SLOTS_MAX
  pub slots_fit : n * SLOT_WORDS ≤ length s
  pub dir_fits : last ≤ length dir
  pub dir_max : last ≤ DIRECTORY_MAX
  pub k_last : k ≤ last
  pub by_max : by ≤ CELLS_MAX
  pub listed : (j : ℕ) → j < n → ((header_at s j).size ≡ 0 → ⊥) → get_or dir (header_at s j).entry 0 ≡ j
  pub starts_max : (j : ℕ) → j < n → ((header_at s j).size ≡ 0 → ⊥) → k ≤ (header_at s j).entry → (header_at s j).start ≤ CELLS_MAX
