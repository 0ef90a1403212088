-- Arrays that grow (document 01, "Slot and object").
use Rattle.std.specs.Prelude.{ℕ, ◌+◌, ◌*◌, ◌≤◌, ◌<◌, ◌≡◌, cond, List, eqb, length, set}
use Rattle.heap_slots.specs.Header.{header_at}
use Rattle.heap_slots.specs.Limits.{CELLS_MAX, SLOT_WORDS, SLOTS_MAX}
use Rattle.map_store.specs.Store.{grown_by, grown_capacity}
use Rattle.heap.specs.State.{State, with_moved}
use Rattle.collections_growth.specs.Growth.{Lengthening, Longer}
use Rattle.collections_growth.specs.Words.{ItemIs}

-- "a full array of capacity c grows to the larger of 2c and 4 and is charged the larger of c and 4 (× 8)"
abbrev pub push_size : ℕ → ℕ → ℕ
push_size len size = cond (eqb len size) (grown_capacity size) size

abbrev pub push_bytes : ℕ → ℕ → ℕ
push_bytes len size = cond (eqb len size) (8 * grown_by size) 0

-- an item is written behind the last
pub record Appending (s c : List ℕ) (i : ℕ) : Type 0 where
  pub slot : i < SLOTS_MAX
  pub header : i * SLOT_WORDS + SLOT_WORDS ≤ length s
  pub room : (header_at s i).len < (header_at s i).size
  pub inside : (header_at s i).start + (header_at s i).size ≤ length c
  pub cells_max : length c ≤ CELLS_MAX

pub record Appended (s c s' c' : List ℕ) (i v : ℕ) : Type 0 where
  pub len : s' ≡ set s (i * SLOT_WORDS + 4) ((header_at s i).len + 1)
  pub item : c' ≡ set c ((header_at s i).start + (header_at s i).len) v

-- the array in slot i is to have more cells than items, and there are as many
pub record Extending (t : State) (i size : ℕ) : Type 0 where
  pub long : Lengthening t i size
  pub room : (header_at t.slots i).len < size

-- from b to a: its region became longer, then the item was written
pub record Extended (b : State) (i size type v : ℕ) (a : State) : Type 0 where
  pub slots : List ℕ
  pub cells : List ℕ
  pub word : ℕ
  pub longer : Longer b i size (with_moved b a.heap slots a.directory cells)
  pub item : ItemIs b type v word
  pub appended : Appended slots cells a.slots a.cells i word
